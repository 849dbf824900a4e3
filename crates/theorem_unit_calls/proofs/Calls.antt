-- What one accepted call gives, on the image of a node. Assumes nothing.
use mathlib.Core.Path.{◌≡◌, refl, sym, ap, ap₂, ◌∙◌}
use mathlib.Core.Bool.{Bool, true, false, not, ◌&&◌, ◌||◌, cond}
use mathlib.Core.List.{List}
use mathlib.Core.Option.{Option, none, some}
use Prim.Native.Nat.{ℕ, ◌≤◌, ◌<◌}
use native.Mathlib.Omega.{arith}
use lib.Dec.{eqb}
use Rattle.std.specs.Prelude as std
use Rattle.frames.specs.declared.Heartbeat.{Heartbeat}
use Rattle.frames.specs.declared.Heartbeat.TheVariants.{Alive, Join, Request}
use Rattle.sets.specs.Sets.{has}
use Rattle.sets.proofs.Booleans.{and_i, or_f_r}
use Rattle.sets.proofs.Nodes.{those_in}
use Rattle.refusal.specs.declared.Refusal.{Refusal}
use Rattle.refusal.specs.declared.Refusal.TheVariants.{Number}
use Rattle.refusal.specs.Codes.{status_of}
use Rattle.refusal.proofs.Laws.{none as passed, unless-done}
use Rattle.state.specs.declared.State.{State}
use Rattle.state.specs.declared.State.TheVariants.{Out, Joining, Member}
use Rattle.state.specs.declared.Node.{Node}
use Rattle.state.specs.State.{formed, formed_place, formed_state, founding_group, initial}
use Rattle.state.specs.Image.{image_of, decoded}
use Rattle.state.proofs.RoundTrip.{round_trip}
use Rattle.rules.specs.declared.Vote.{Vote}
use Rattle.rules.specs.declared.Config.{Config}
use Rattle.rules.specs.OneCycle.{wrong_mode, quiet_in, stopped, stop_and_start}
use Rattle.frames.specs.Written.{wrong_drive, vote_frame}
use Rattle.bus_units.specs.Units.{Copies, heartbeat_sent, heartbeat_got, is_alive, is_join, is_request, unit_hears, vote_framed}
use Rattle.bus_units.specs.Carried.{is_some, sends_heartbeat}
use Rattle.entry_lent.specs.Refusals.{wrong_indicators, wrong_cycle, wrong_channel}
use Rattle.entry_lent.specs.Found.{lent_state, image_status}
use Rattle.entry_lent.proofs.Bounds.{sending_bounds}
use Rattle.entry_begin.specs.Begin.{begin_status, begin_left}
use Rattle.entry_stop_start.specs.StopStart.{stop_left, start_left, rule_one_of}
use Rattle.entry_send_heartbeat.specs.Beating.{wrong_sending, send_heartbeat_status, send_heartbeat_left, send_heartbeat_sent, sends_byte, sent_of, heartbeat_of, heartbeat_from}
use Rattle.entry_receive_heartbeat.specs.Hearing.{heard_code}
use Rattle.entry_send_vote.specs.Voting.{own_view, votes_on, send_vote_status, send_vote_left, send_vote_sent, votes_byte, voted_of, vote_in, vote_from}
use Rattle.entry_decide.specs.Decide.{decide_status, decide_left, decision, decided_from}
use Rattle.theorem_unit_calls.specs.Entries.{Frame, by_definition}

-- node q of n in a state, and its image
abbrev pub node_in : ℕ → ℕ → State → Node
node_in n q s = record { state = s; id = q; nodes = n }

abbrev pub image_in : ℕ → ℕ → State → List ℕ
image_in n q s = image_of (node_in n q s)

-- ---- what a call that sends gave, by the frame that there is to send, if any

abbrev pub Gives : Frame → Option (List ℕ) → Type 0
Gives g none = g.sent ≡ 0
Gives g (some x) = (g.sent ≡ 1) × (g.bytes ≡ x)

pub given_wrote : (g : Frame) (o : Option (List ℕ)) (y : List ℕ) → Gives g o → g.sent ≡ 1 → g.bytes ≡ y → o ≡ some y
given_wrote g none y a b e = absurd (let z : 0 ≡ 1 = sym a ∙ b in omega arith)
given_wrote g (some x) y a b e = ap {B = Option (List ℕ)} some (sym a.1 ∙ e)

pub given-sends : (g : Frame) (o : Option (List ℕ)) → Gives g o → eqb g.sent 1 ≡ is_some o
given-sends g none a = ap (λ (k : ℕ). eqb k 1) a
given-sends g (some x) a = ap (λ (k : ℕ). eqb k 1) a.0

pub beat_speaks : (sync startup : ℕ) (drive : List ℕ) (count q channel : ℕ) (s : State) → is_some (heartbeat_sent sync startup drive count q s channel) ≡ sends_heartbeat s
beat_speaks sync startup drive count q channel (Out r) = refl
beat_speaks sync startup drive count q channel Joining = refl
beat_speaks sync startup drive count q channel (Member g a) = refl

pub vote_speaks : (count q channel : ℕ) (o : Option Vote) → is_some (vote_framed count q o channel) ≡ is_some o
vote_speaks count q channel none = refl
vote_speaks count q channel (some v) = refl

-- ---- the number that `gm_receive_heartbeat` answers

pub alive_code : (r : std.Option Heartbeat) → (eqb (heard_code r) 1 || eqb (heard_code r) 3) ≡ is_alive r
alive_code std.None = refl
alive_code (std.Some Alive) = refl
alive_code (std.Some Join) = refl
alive_code (std.Some Request) = refl

pub join_code : (r : std.Option Heartbeat) → eqb (heard_code r) 2 ≡ is_join r
join_code std.None = refl
join_code (std.Some Alive) = refl
join_code (std.Some Join) = refl
join_code (std.Some Request) = refl

pub request_code : (r : std.Option Heartbeat) → eqb (heard_code r) 3 ≡ is_request r
request_code std.None = refl
request_code (std.Some Alive) = refl
request_code (std.Some Join) = refl
request_code (std.Some Request) = refl

-- who requests is heard with join 0
pub request_alive : (r : std.Option Heartbeat) → (is_alive r && is_request r) ≡ is_request r
request_alive std.None = refl
request_alive (std.Some Alive) = refl
request_alive (std.Some Join) = refl
request_alive (std.Some Request) = refl

-- ---- what a unit hears of another, by its bit

pub hears_bit : (C : Config) (count : ℕ) (h : Copies) (kind : std.Option Heartbeat → Bool) (p q : ℕ) → p < C.nodes → eqb p q ≡ false
    → has p (unit_hears C count h kind q) ≡ kind (heartbeat_got C.quiet count h q p)
unfolding unit_hears
hears_bit C count h kind p q l o =
    those_in p C.nodes (λ y. not (eqb y q) && kind (heartbeat_got C.quiet count h q y)) l
    ∙ ap (λ (b : Bool). not b && kind (heartbeat_got C.quiet count h q p)) o

-- it does not listen to itself
pub hears_self : (C : Config) (count : ℕ) (h : Copies) (kind : std.Option Heartbeat → Bool) (p q : ℕ) → p < C.nodes → eqb p q ≡ true → has p (unit_hears C count h kind q) ≡ false
unfolding unit_hears
hears_self C count h kind p q l o =
    those_in p C.nodes (λ y. not (eqb y q) && kind (heartbeat_got C.quiet count h q y)) l
    ∙ ap (λ (b : Bool). not b && kind (heartbeat_got C.quiet count h q p)) o

-- ---- node q of n in a state s

-- the vote that it casts by what it heard
abbrev pub vote_by : (quiet : Bool) → (n q heard0 heard1 requests : ℕ) → State → Option Vote
vote_by quiet n q heard0 heard1 requests (Out r) = none
vote_by quiet n q heard0 heard1 requests Joining = none
vote_by quiet n q heard0 heard1 requests (Member g a) =
    let node = node_in n q (Member g a) in
    cond (votes_on quiet node g a heard0 heard1 requests) (some (record { group = g; view = own_view node heard0 heard1 g })) none

pub begin_gives : (n q F : ℕ) (y : List ℕ) → by_definition.begin n q F y → y ≡ image_in n q (initial 0 F q)
unfolding begin_left
begin_gives n q F y k =
    let t = k.lower in
    t.2 ∙ unless-done (begin_status n q F t.0) (image_in n q (initial 0 F q)) t.0 (sym t.1)

-- where the founding set lacks it, this is the image of a stopped node
pub begin_stops : (n q F : ℕ) (y : List ℕ) → has q F ≡ false → by_definition.begin n q F y → y ≡ image_in n q stopped
begin_stops n q F y o k = begin_gives n q F y k ∙ ap (λ (b : Bool). image_in n q (cond b (Member (founding_group 0 F) false) stopped)) o

-- an image that is read in a mode that there is
pub state_lent : (mode : ℕ) (x : List ℕ) (node : Node) → wrong_mode mode ≡ false → decoded (quiet_in mode) x ≡ std.Ok node → lent_state mode x ≡ std.Ok node
unfolding lent_state
state_lent mode x node e f = ap₂ (λ (wrong : Bool) (d : std.Result Node Refusal). cond wrong (std.Err Number) d) e f

-- who is accepted with an image gave a mode
pub moded : (mode : ℕ) (x : List ℕ) → 0 ≡ image_status mode x → wrong_mode mode ≡ false
unfolding image_status lent_state
moded mode x e = go (wrong_mode mode) e
  where
    go : (wrong : Bool) → 0 ≡ status_of (cond wrong (std.Err Number) (decoded (quiet_in mode) x)) → wrong ≡ false
    go true k = absurd (omega arith)
    go false k = refl

module _ (mode n q : ℕ) (s : State) (place : formed_place q n ≡ true) (w : formed_state (quiet_in mode) q n s ≡ true) where
  abbrev quiet : Bool
  quiet = quiet_in mode

  abbrev x : List ℕ
  x = image_in n q s

  pub image_back : decoded quiet x ≡ std.Ok (node_in n q s)
  unfolding formed
  image_back = round_trip quiet (node_in n q s) (and_i (formed_place q n) (formed_state quiet q n s) place w)

  pub image_lent : wrong_mode mode ≡ false → lent_state mode x ≡ std.Ok (node_in n q s)
  image_lent e = state_lent mode x (node_in n q s) e image_back

  pub stop-gives : wrong_mode mode ≡ false → stop_left mode x ≡ image_in n q (stop_and_start true false s)
  unfolding stop_left
  stop-gives e = ap (λ (l : std.Result Node Refusal). rule_one_of true false l x) (image_lent e)

  pub start_gives : wrong_mode mode ≡ false → start_left mode x ≡ image_in n q (stop_and_start false true s)
  unfolding start_left
  start_gives e = ap (λ (l : std.Result Node Refusal). rule_one_of false true l x) (image_lent e)

  pub beat-gives : (sync startup count channel : ℕ) (drive : List ℕ) (g : Frame) → by_definition.send_heartbeat mode x sync startup count channel drive g
      → Gives g (heartbeat_sent sync startup drive count q s channel)
  unfolding send_heartbeat_left send_heartbeat_sent
  beat-gives sync startup count channel drive g k =
      let t = k.lower in
      let status = send_heartbeat_status mode x sync startup count channel drive t.0 in
      let from : std.Result Node Refusal → List ℕ = λ d. heartbeat_from d sync startup count channel drive t.0 in
      go s t.0 (t.4 ∙ unless-done status (sent_of (decoded quiet x)) t.1 (sym t.2) ∙ ap sent_of image_back)
      (t.3 ∙ unless-done status (from (decoded quiet x)) t.0 (sym t.2) ∙ ap from image_back)
    where
      go : (s : State) (f : List ℕ) → g.sent ≡ sends_byte s → g.bytes ≡ heartbeat_of (node_in n q s) sync startup count channel drive f
          → Gives g (heartbeat_sent sync startup drive count q s channel)
      go (Out r) f a b = a
      go Joining f a b = (a, b)
      go (Member h c) f a b = (a, b)

  -- a member that does not vote sends no frame
  pub vote-gives : (heard0 heard1 requests count channel : ℕ) (g : Frame) → by_definition.send_vote mode x heard0 heard1 requests count channel g
      → Gives g (vote_framed count q (vote_by quiet n q heard0 heard1 requests s) channel)
  unfolding send_vote_left send_vote_sent
  vote-gives heard0 heard1 requests count channel g k =
      let t = k.lower in
      let status = send_vote_status mode x count channel t.0 in
      let voted : std.Result Node Refusal → ℕ = λ d. voted_of quiet d heard0 heard1 requests in
      let from : std.Result Node Refusal → List ℕ = λ d. vote_from quiet d heard0 heard1 requests count channel t.0 in
      go s t.0 (t.4 ∙ unless-done status (voted (decoded quiet x)) t.1 (sym t.2) ∙ ap voted image_back)
      (t.3 ∙ unless-done status (from (decoded quiet x)) t.0 (sym t.2) ∙ ap from image_back)
    where
      by : (votes : Bool) (v : Vote) (f : List ℕ) → g.sent ≡ cond votes 1 0 → g.bytes ≡ cond votes (vote_frame q v count channel) f
          → Gives g (vote_framed count q (cond votes (some v) none) channel)
      by true v f a b = (a, b)
      by false v f a b = a

      go : (s : State) (f : List ℕ) → g.sent ≡ votes_byte quiet (node_in n q s) s heard0 heard1 requests
          → g.bytes ≡ vote_in quiet (node_in n q s) s heard0 heard1 requests count channel f → Gives g (vote_framed count q (vote_by quiet n q heard0 heard1 requests s) channel)
      go (Out r) f a b = a
      go Joining f a b = a
      go (Member h c) f a b = by (votes_on quiet (node_in n q (Member h c)) h c heard0 heard1 requests) _ f a b

  pub decide-gives : (heard0 heard1 requests : ℕ) (votes : List ℕ) (arrived : ℕ) (y : List ℕ) → by_definition.decide mode x heard0 heard1 requests votes arrived y
      → y ≡ image_in n q (decision quiet (node_in n q s) s heard0 heard1 requests votes arrived)
  unfolding decide_left
  decide-gives heard0 heard1 requests votes arrived y k =
      let from : std.Result Node Refusal → List ℕ = λ d. decided_from quiet d heard0 heard1 requests votes arrived x in
      k.lower.1 ∙ unless-done (decide_status mode x votes) (from (decoded quiet x)) x (sym k.lower.0) ∙ ap from image_back

-- the indicators, the count and the drive bytes that `gm_send_heartbeat` accepts
pub beat_bounds : (mode : ℕ) (x : List ℕ) (sync startup count channel : ℕ) (drive : List ℕ) (g : Frame) → by_definition.send_heartbeat mode x sync startup count channel drive g
    → (sync ≤ 1) × (startup ≤ sync) × (count ≤ 63) × (wrong_drive drive ≡ false)
unfolding send_heartbeat_status
beat_bounds mode x sync startup count channel drive g k =
    let numbers = passed (wrong_sending mode sync startup count channel) 2 _ refl (sym k.lower.2) in
    let b = sending_bounds sync startup count channel (or_f_r (wrong_mode mode) (wrong_indicators sync startup || wrong_cycle count || wrong_channel channel) numbers.0) in
    (b.0, b.1, b.2, (passed (wrong_drive drive) 3 _ refl numbers.1).0)
