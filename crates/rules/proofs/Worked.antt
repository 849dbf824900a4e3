-- The examples hold: the rules give what the tables expect. Assumes nothing.
use mathlib.Core.Path.{◌≡◌, refl, sym, ap, ap₂, ◌∙◌}
use mathlib.Core.Bool.{Bool, true, false}
use mathlib.Core.List.{List, map}
use mathlib.Core.Option
use mathlib.Core.Option.{Option, none, some}
use Prim.Native.Nat.{ℕ}
use native.Mathlib.Omega.{arith}
use lib.Count.{ones}
use Rattle.sets.specs.Sets.{has, single, ◌∪◌, ◌∩◌, ◌∖◌, those, below, size, lowest, any, every}
use Rattle.sets.specs.Quorum.{quorum}
use Rattle.state.specs.declared.Reason.{Reason}
use Rattle.state.specs.declared.Reason.TheVariants.{Stopped, NoQuorum, Outvoted}
use Rattle.state.specs.declared.Group.{Group}
use Rattle.state.specs.declared.State.{State}
use Rattle.state.specs.declared.State.TheVariants.{Out, Joining, Member}
use Rattle.state.specs.State.{reason_code, next_number}
use Rattle.state.specs.Image.{reason_of}
use Rattle.rules.specs.OneCycle.{stop_and_start, view_of, same_group, same_vote, voters, wins, new_set, group_with, new_group, called, will_vote, request_with, request_after, member_decides, silent_decides, joiner_decides}
use Rattle.rules.specs.Faults.{tabulate, founding, reaches, disturbed, rule_one, heard, own_vote, votes_now, votes, decisions, cycle}
use Rattle.rules.specs.Reference.{beginning, steady, keeps, step, halted_in, entered_in}
use Rattle.rules.specs.Examples.{Seen, Example, examples, watch, seen, Turn, Lent, lent, turns, turned, Given, given, ruled}
use Rattle.rules.proofs.Failing.{both, equal_numbers, equal-lists, failing, all_hold}

-- ---- that two things seen are equal, where they are
abbrev equal_tests : (a b : Bool) → Option (a ≡ b)
equal_tests true true = some refl
equal_tests true false = none
equal_tests false true = none
equal_tests false false = some refl

abbrev equal_groups : (g h : Group) → Option (g ≡ h)
equal_groups g h =
    Option.map (λ (e : (g.number ≡ h.number) × ((g.set ≡ h.set) × (g.base ≡ h.base))). λ i. record { number = e.0 i; set = e.1.0 i; base = e.1.1 i })
    (both (equal_numbers g.number h.number) (both (equal_numbers g.set h.set) (equal_numbers g.base h.base)))

abbrev equal_references : (o p : Option Group) → Option (o ≡ p)
equal_references none none = some refl
equal_references none (some h) = none
equal_references (some g) none = none
equal_references (some g) (some h) = Option.map (ap {B = Option Group} some) (equal_groups g h)

reason_back : (r : Reason) → r ≡ reason_of (reason_code r)
reason_back Stopped = refl
reason_back NoQuorum = refl
reason_back Outvoted = refl

abbrev equal_states : (s t : State) → Option (s ≡ t)
equal_states (Out r) (Out s) =
    Option.map (λ (e : reason_code r ≡ reason_code s). ap {B = State} Out (reason_back r ∙ ap reason_of e ∙ sym (reason_back s))) (equal_numbers (reason_code r) (reason_code s))
equal_states (Out r) Joining = none
equal_states (Out r) (Member h b) = none
equal_states Joining (Out s) = none
equal_states Joining Joining = some refl
equal_states Joining (Member h b) = none
equal_states (Member g a) (Out s) = none
equal_states (Member g a) Joining = none
equal_states (Member g a) (Member h b) = Option.map (λ (e : (g ≡ h) × (a ≡ b)). ap₂ (λ (x : Group) (y : Bool). Member x y) e.0 e.1) (both (equal_groups g h) (equal_tests a b))

abbrev equal_seen : (a b : Seen) → Option (a ≡ b)
equal_seen a b =
    Option.map (λ (e : (a.kept ≡ b.kept) × ((a.reference ≡ b.reference) × ((a.halted ≡ b.halted) × ((a.entered ≡ b.entered) × (a.row ≡ b.row))))).
    λ i. record { kept = e.0 i; reference = e.1.0 i; halted = e.1.1.0 i; entered = e.1.1.1.0 i; row = e.1.1.1.1 i })
    (both (equal_tests a.kept b.kept) (both (equal_references a.reference b.reference) (both (equal_numbers a.halted b.halted)
    (both (equal_numbers a.entered b.entered) (equal-lists State equal_states a.row b.row)))))

abbrev equal_turns : (a b : Turn) → Option (a ≡ b)
equal_turns a b =
    Option.map (λ (e : (a.voted ≡ b.voted) × (a.row ≡ b.row)). λ i. record { voted = e.0 i; row = e.1 i })
    (both (equal_numbers a.voted b.voted) (equal-lists State equal_states a.row b.row))

-- ---- no example fails, by computation. Where one does, the error says at which number `failed` is not 0: that of the example, two digits for each.
abbrev number : Example → ℕ
number e = e.example

abbrev expected : Example → List Seen
expected e = e.expected

none_fails : (failed : ℕ) → failed ≡ failing Example (List Seen) number seen expected (equal-lists Seen equal_seen) examples → failed ≡ 0
unfolding ones has single ◌∪◌ ◌∩◌ ◌∖◌ those below size lowest any every quorum next_number stop_and_start view_of same_group same_vote voters wins new_set group_with new_group called will_vote request_with request_after member_decides silent_decides joiner_decides tabulate founding reaches disturbed rule_one heard own_vote votes_now votes decisions cycle beginning steady keeps step halted_in entered_in watch seen
none_fails failed e = omega arith

pub examples_hold : map seen examples ≡ map expected examples
examples_hold = all_hold Example (List Seen) number seen expected (equal-lists Seen equal_seen) examples (none_fails _ refl)

abbrev lent_number : Lent → ℕ
lent_number l = l.example

abbrev turns-due : Lent → List Turn
turns-due l = l.expected

no_lent_fails : (failed : ℕ) → failed ≡ failing Lent (List Turn) lent_number turned turns-due (equal-lists Turn equal_turns) lent → failed ≡ 0
unfolding ones has single ◌∪◌ ◌∩◌ ◌∖◌ those below size any quorum next_number stop_and_start view_of same_group same_vote voters wins new_set group_with new_group called will_vote request_with request_after member_decides silent_decides tabulate reaches rule_one heard own_vote votes_now votes decisions cycle turns turned
no_lent_fails failed e = omega arith

pub lent_hold : map turned lent ≡ map turns-due lent
lent_hold = all_hold Lent (List Turn) lent_number turned turns-due (equal-lists Turn equal_turns) lent (no_lent_fails _ refl)

abbrev given_number : Given → ℕ
given_number g = g.example

abbrev state_due : Given → State
state_due g = g.expected

no_given_fails : (failed : ℕ) → failed ≡ failing Given State given_number ruled state_due equal_states given → failed ≡ 0
unfolding ones has single ◌∪◌ ◌∩◌ ◌∖◌ those below size lowest any every quorum next_number view_of same_group same_vote voters wins new_set group_with new_group called will_vote request_with request_after member_decides silent_decides joiner_decides tabulate reaches heard own_vote votes_now ruled
no_given_fails failed e = omega arith

pub given_hold : map ruled given ≡ map state_due given
given_hold = all_hold Given State given_number ruled state_due equal_states given (no_given_fails _ refl)
