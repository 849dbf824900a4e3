-- `gm_cycle`, `gm_run` and `gm_run_frames` as they are compiled: they meet their contracts, and so demand 3 holds over any list of their calls on one row.
-- Assumes nothing.
use mathlib.Core.Path.{◌≡◌, refl, sym, ap, ◌∙◌, subst}
use mathlib.Core.Bool.{Bool, true, false}
use mathlib.Core.List.{List, [], ◌∷◌}
use Prim.Native.Nat.{ℕ, ◌≤◌}
use lib.Dec.{eqb}
use lib.ListN.{length}
use borrow.Author.Tests.{eqb-true, eqb-false}
use Rattle.refusal.proofs.Laws.{unless-done, unless-refused}
use Rattle.state.specs.declared.Node.{Node}
use Rattle.row_calls.specs.Histories.{Call, status, left, History, history_of, nodes_after, history_after, AllIn, Stands, Begun, at_beginning, by_a_run, Promised}
use Rattle.rules.specs.OneCycle.{quiet_in}
use Rattle.row.proofs.Meaning.{order_either}
use Rattle.row_calls.proofs.OverCalls.{stands-length, refused_left, stands_after, begun-stands, over_calls}
use Rattle.row_calls.proofs.Standing.{stands_in_order}
use Rattle.row_images.specs.Images.{nodes_in, images_of}
use Rattle.entry_row.specs.OnImages.{lent_status, lent_left, images_left}
use Rattle.row_images.proofs.Images.{nodes_images}
use Rattle.gm.proofs.gm_cycle.Statement as gm-cycle-says
use Rattle.gm.proofs.gm_cycle.Met as gm-cycle-met
use Rattle.gm.proofs.gm_run.Statement as gm-run-says
use Rattle.gm.proofs.gm_run.Met as gm-run-met
use Rattle.gm.proofs.gm_run_frames.Statement as gm-run-frames-says
use Rattle.gm.proofs.gm_run_frames.Met as gm-run-frames-met
use Rattle.theorem_entries.specs.Images.{Done, none, cycle, run, run_frames, OverImages}
use Rattle.row_calls.proofs.Counts.{counted}

-- the compiled entries meet the contracts that their callers read
pub cycle_code : {M : Type 1} → gm-cycle-says.statement M
cycle_code {M} = gm-cycle-met.met

pub run_code : {M : Type 1} → gm-run-says.statement M
run_code {M} = gm-run-met.met

pub run_frames_code : {M : Type 1} → gm-run-frames-says.statement M
run_frames_code {M} = gm-run-frames-met.met

-- ---- the row's bytes after the calls, by the definitions that the contracts cite

abbrev left_in : Call → List ℕ → List ℕ
left_in c x = lent_left c.task c.count c.mode x c.room c.bytes

unfoldable images_after : List Call → List ℕ → List ℕ
images_after [] x = x
images_after (c ∷ cs) x = images_after cs (left_in c x)

next : (c : Call) (cs : List Call) (x₀ x y₀ y z : List ℕ) → y₀ ≡ left_in c x₀ → x₀ ≡ x → y₀ ≡ y → z ≡ images_after cs y → z ≡ images_after (c ∷ cs) x
unfolding images_after
next c cs x₀ x y₀ y z l p q rest = rest ∙ ap (λ (v : List ℕ). images_after cs v) (sym q ∙ l ∙ ap (λ (v : List ℕ). left_in c v) p)

done_images : {cs : List Call} {x z : List ℕ} → Done cs x z → z ≡ images_after cs x
unfolding images_after images_left
done_images none = refl
done_images (cycle {cs} {x} {y} {z} κs a r s l p q rest) = next _ cs a.1.1.0.now x s.1.1.0.now y z l.1 p q (done_images rest)
done_images (run {cs} {x} {y} {z} κs a r s l p q rest) = next _ cs a.1.0.now x s.1.0.now y z l.1 p q (done_images rest)
done_images (run_frames {cs} {x} {y} {z} κs a r s l p q rest) = next _ cs a.1.0.now x s.1.0.now y z l.1.0 p q (done_images rest)

-- ---- the nodes of the row after the calls are those that the calls on nodes give

-- one call: what it leaves stands, and so is read back from its images; what a refused one leaves is the row as it was
nodes_left : (mode n : ℕ) (h : History) (c : Call) (x : List ℕ) → length (nodes_in x) ≡ n → Stands mode n (left c (nodes_in x)) h → nodes_in (left_in c x) ≡ left c (nodes_in x)
unfolding lent_status lent_left
nodes_left mode n h c x l w = go (eqb k 0) refl
  where
    k : ℕ
    k = status c (nodes_in x)

    after : List ℕ
    after = images_of (left c (nodes_in x))

    go : (b : Bool) → eqb k 0 ≡ b → nodes_in (left_in c x) ≡ left c (nodes_in x)
    go true e =
        let done = eqb-true k 0 e in
        let size = counted c.task c.count c.mode (nodes_in x) c.room c.bytes done in
        ap nodes_in (unless-done k after x done)
        ∙ nodes_images n (left c (nodes_in x))
        (order_either (quiet_in mode) n 0 (left c (nodes_in x)) (stands_in_order mode n (left c (nodes_in x)) h w (subst (λ (m : ℕ). 2 ≤ m) l size.0) (subst (λ (m : ℕ). m ≤ 64) l size.1)))
    go false e =
        let refused = eqb-false k 0 e in
        ap nodes_in (unless-refused k after x refused) ∙ sym (refused_left c.task c.count c.mode (nodes_in x) c.room c.bytes refused)

-- the calls after one that leaves a row that stands, and a list of them
nodes_next : (mode n : ℕ) (h : History) (c : Call) (cs : List Call) (x : List ℕ) → length (nodes_in x) ≡ n → Stands mode n (left c (nodes_in x)) h
    → (Stands mode n (nodes_in (left_in c x)) h → nodes_in (images_after cs (left_in c x)) ≡ nodes_after cs (nodes_in (left_in c x)))
    → nodes_in (images_after (c ∷ cs) x) ≡ nodes_after (c ∷ cs) (nodes_in x)
unfolding images_after nodes_after
nodes_next mode n h c cs x l w rest =
    let same = nodes_left mode n h c x l w in
    rest (subst (λ (v : List Node). Stands mode n v h) (sym same) w) ∙ ap (λ (v : List Node). nodes_after cs v) same

-- the calls that are left are in the mode, on the images as on the nodes
still : (mode n : ℕ) (c : Call) (cs : List Call) (x : List ℕ) (h : History) → length (nodes_in x) ≡ n → Stands mode n (left c (nodes_in x)) h → AllIn mode cs (left c (nodes_in x)) → AllIn mode cs (nodes_in (left_in c x))
still mode n c cs x h l w all = subst (AllIn mode cs) (sym (nodes_left mode n h c x l w)) all

nodes_after_lem : (mode n : ℕ) (h : History) (cs : List Call) (x : List ℕ) → AllIn mode cs (nodes_in x) → Stands mode n (nodes_in x) h → nodes_in (images_after cs x) ≡ nodes_after cs (nodes_in x)
unfolding images_after nodes_after history_after AllIn
nodes_after_lem mode n h [] x all w = refl
nodes_after_lem mode n h (c ∷ cs) x all w =
    let after = stands_after mode n (c ∷ []) (nodes_in x) h (all.0, tt) w in
    let length-is = stands-length mode n (nodes_in x) h w in
    nodes_next mode n (history_of c (nodes_in x) h) c cs x length-is after
    (nodes_after_lem mode n (history_of c (nodes_in x) h) cs (left_in c x) (still mode n c cs x (history_of c (nodes_in x) h) length-is after all.1))

-- before a first call that is an accepted run the row is any
begun_nodes : (mode n : ℕ) (h : History) (cs : List Call) (x : List ℕ) → AllIn mode cs (nodes_in x) → Begun mode n (nodes_in x) h cs → nodes_in (images_after cs x) ≡ nodes_after cs (nodes_in x)
unfolding nodes_after history_after AllIn
begun_nodes mode n h cs x all (at_beginning w e) = nodes_after_lem mode n h cs x all w
begun_nodes mode n h (c ∷ cs) x all (by_a_run l d e) =
    let after = begun-stands mode n (c ∷ []) (nodes_in x) h (all.0, tt) (by_a_run l d e) in
    nodes_next mode n (history_of c (nodes_in x) h) c cs x l after
    (nodes_after_lem mode n (history_of c (nodes_in x) h) cs (left_in c x) (still mode n c cs x (history_of c (nodes_in x) h) l after all.1))

pub over_images : OverImages
over_images mode n h cs x z all b d =
    subst (λ (v : List Node). Promised mode n v (history_after cs (nodes_in x) h)) (sym (ap nodes_in (done_images d) ∙ begun_nodes mode n h cs x all b))
    (over_calls mode n (nodes_in x) h cs all b)
