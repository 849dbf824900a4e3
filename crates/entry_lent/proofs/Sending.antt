-- What a call answers and leaves that sends a frame of k bytes from a lent state, by what it finds there. Assumes nothing.
use Rattle.std.proofs.Common.{◌≡◌, ℕ, Bool, true, false, not, ◌||◌, cond, eqb, List, ◌∷◌, length, refl, sym, ap, ap₂, ◌∙◌, Result, Ok, Err}
use borrow.Author.Tests.{eqb-true}
use Rattle.state.specs.declared.Node.{Node}
use Rattle.state.specs.Image.{decoded, node_at}
use Rattle.refusal.specs.declared.Refusal.{Refusal}
use Rattle.refusal.specs.declared.Refusal.TheVariants.{Number, Length, Image}
use Rattle.refusal.specs.Codes.{code_of, status_of}
use Rattle.refusal.specs.Refusal.{when, first, unless}
use Rattle.refusal.proofs.Laws.{unless-done}
use Rattle.entry_lent.specs.Refusals.{lent_conditions}
use Rattle.entry_lent.specs.Found.{lent_node}
use Rattle.entry_lent.proofs.Images.{by_decoded, is_wrong, length_read}

module _ (quiet wrong : Bool) (s : List ℕ) (k : ℕ) (f : List ℕ) where
  -- refusals 2, 3 and 4 of such a call
  abbrev pub send_status : ℕ
  send_status = first (when wrong 2 ∷ lent_conditions quiet s k f)

  pub status-found : status_of (lent_node quiet wrong s (length f) k) ≡ send_status
  unfolding lent_node first
  status-found = simp (length_read quiet s) (by_decoded quiet s Answers good malformed short wrong (eqb (length f) k))
    where
      Answers : Result Node Refusal → Type 0
      Answers d = (b e : Bool) → status_of (cond b (Err Number) (cond e d (Err Length))) ≡ cond b 2 (cond (is_wrong d || not e) 3 (cond (eqb (status_of d) 4) 4 0))

      good : Answers (Ok (node_at s))
      good true e = refl
      good false true = refl
      good false false = refl

      malformed : Answers (Err Image)
      malformed true e = refl
      malformed false true = refl
      malformed false false = refl

      short : Answers (Err Length)
      short true e = refl
      short false true = refl
      short false false = refl

  -- what such a call answers that found no node, in the mode q and with numbers that are wrong or not as w has it
  none-found : (q w : Bool) → q ≡ quiet → w ≡ wrong → lent_node q w s (length f) k ≡ lent_node quiet wrong s (length f) k
  none-found q w m e = ap₂ (λ (a b : Bool). lent_node a b s (length f) k) m e

  pub none_status : (q w : Bool) (r : Refusal) → q ≡ quiet → w ≡ wrong → Err r ≡ lent_node q w s (length f) k → code_of r ≡ send_status
  none_status q w r m e h = ap status_of (h ∙ none-found q w m e) ∙ status-found

  -- and one that found a node
  pub record Found (n : Node) : Type 0 where
    pub right : wrong ≡ false
    pub accepted : 0 ≡ send_status
    pub sized : length f ≡ k
    pub image : decoded quiet s ≡ Ok n

  pub found : (q w : Bool) (n : Node) → q ≡ quiet → w ≡ wrong → Ok n ≡ lent_node q w s (length f) k → Found n
  unfolding lent_node
  found q w n m e h =
      record { right = sym e ∙ z.0; accepted = ap status_of (h ∙ none-found q w m e) ∙ status-found; sized = eqb-true (length f) k z.1.0; image = ap (λ (x : Bool). decoded x s) (sym m) ∙ z.1.1 }
    where
      go : (a b : Bool) (d : Result Node Refusal) → cond a (Err Number) (cond b d (Err Length)) ≡ Ok n → (a ≡ false) × ((b ≡ true) × (d ≡ Ok n))
      go true b d h = cc
      go false false d h = cc
      go false true d h = (refl, (refl, h))

      z : (w ≡ false) × ((eqb (length f) k ≡ true) × (decoded q s ≡ Ok n))
      z = go w (eqb (length f) k) (decoded q s) (sym h)

  -- what is left after it
  pub left_found : {A : Type 0} (from : Bool → Result Node Refusal → A) (before left : A) (q : Bool) (n : Node) → q ≡ quiet → Found n → left ≡ from q (Ok n)
      → left ≡ unless send_status (from quiet (decoded quiet s)) before
  left_found from before left q n m h e = e ∙ ap₂ from m (sym h.image) ∙ sym (unless-done send_status _ before (sym h.accepted))
