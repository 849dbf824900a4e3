use mathlib.Core.Path.{◌≡◌, refl, ap, ap₂, ◌∙◌}
use mathlib.Core.Bool.{Bool, ◌&&◌}
use mathlib.Core.List.{List}
use Prim.Native.Nat.{ℕ}
use native.Mathlib.Omega.{arith}
use lib.ListN.{get_or, length-set}
use borrow.Author.Count.{below_none}
use Rattle.sets.specs.Sets.{has, ◌∖◌}
use Rattle.sets.proofs.Nodes.{those-none, those-next, those_end}
use Rattle.rules.specs.declared.Config.{Config}
use Rattle.rules.specs.OneCycle.{view_of, called, will_vote}
use Rattle.rules.proofs.Arrays.{stored}
use Rattle.bus_units.specs.Units.{is_alive, is_join, is_request}
use Rattle.bus_channels.specs.Channels.{heard_read, view_read, votes_read, voting_read}
use Rattle.bus_channels.proofs.views_of.Goals as goal

-- a view of what was heard, and whether its member votes; h are the nodes that reach it
module _ (C : Config) (count reach set q h members joining requests view : ℕ) (a b : List ℕ) (e : h ≡ reach) (em : members ≡ heard_read C count h a b is_alive)
    (ej : joining ≡ heard_read C count h a b is_join) (ev : view ≡ view_of C.nodes q set members joining) where
  seen : view ≡ view_read C count reach a b set q
  unfolding view_read
  seen =
      ev ∙ ap₂ (view_of C.nodes q set) (em ∙ ap (λ (y : ℕ). heard_read C count y a b is_alive) e) (ej ∙ ap (λ (y : ℕ). heard_read C count y a b is_join) e)

  votes : (asking : ℕ) (own vote : Bool) → requests ≡ heard_read C count h a b is_request → own ≡ has q asking → vote ≡ will_vote C set view (called set own requests)
      → vote ≡ votes_read C count reach a b set (has q asking) q
  unfolding votes_read
  votes asking own vote er eo e₀ =
      e₀ ∙ ap₂ (λ (x : ℕ) (y : Bool). will_vote C set x (called set y requests)) seen eo
      ∙ ap (λ (x : ℕ). will_vote C set (view_read C count reach a b set q) (called set (has q asking) x)) (er ∙ ap (λ (y : ℕ). heard_read C count y a b is_request) e)

pub loop-q-init : goal.loop-q-init
loop-q-init c = record { long = refl; seen = below_none _; voted = those-none _ }

pub loop-q-preserved : goal.loop-q-preserved
loop-q-preserved c =
    let l = c.loop-q in
    let a = c.args in
    let bus = a.bus in
    let reach = bus.reach ∖ get_or a.missed.now l.q 0 in
    let set = get_or a.sets.now l.q 0 in
    let h = c.hear-heard in
    let shown = seen a.config bus.count reach set l.q _ _ _ h.result.requests _ bus.a.now bus.b.now c.difference.ensures h.ensures.members_value h.ensures.joining_value c.view-view.ensures in
    let voted = votes a.config bus.count reach set l.q _ _ _ h.result.requests _ bus.a.now bus.b.now c.difference.ensures h.ensures.members_value h.ensures.joining_value c.view-view.ensures
    a.w.asking _ _ h.ensures.requests_value c.contains-own.ensures c.will_vote-votes.ensures in
    record {
      long = simp length-set l.invariant.long;
      seen = stored (λ j y. y ≡ view_read a.config bus.count (bus.reach ∖ get_or a.missed.now j 0) bus.a.now bus.b.now (get_or a.sets.now j 0) j) l.views l.q c.view-view.result (omega arith) l.invariant.seen shown;
      voted = those-next _ _ _ _ _ l.invariant.voted (ap₂ (λ (x y : Bool). x && y) c.contains.ensures voted) c.include-voting.ensures;
    }

pub returns : goal.returns
unfolding voting_read
returns c =
    let h = c.loop-q.invariant in
    record { by_index = λ q k. h.seen q (omega arith); voting_value = those_end _ _ _ _ h.voted (omega arith) }
