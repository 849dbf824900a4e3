-- What is scattered over a row, entry by entry, is said in `row`. Assumes nothing.
use mathlib.Core.Path.{◌≡◌, sym, ap, ◌∙◌}
use mathlib.Core.Bool.{Bool, cond}
use mathlib.Core.List.{List}
use Prim.Native.Nat.{ℕ, ◌+◌, ◌<◌}
use native.Mathlib.Omega.{arith}
use lib.ListN.{length, get_or, set}
use borrow.Author.Tests.{lt-ltb}
use Rattle.state.specs.declared.Node.{Node}
use Rattle.cluster_states.specs.declared.States.{States}
use Rattle.row.specs.Gathered.{placed_node, node_of}
use Rattle.row.proofs.Lists.{upto, upto-none, upto-set, upto_all}
use Rattle.row_nodes.proofs.scatter.Goals as goal

one_more : (n : ℕ) (s : States) (q : ℕ) (ys zs : List Node) (x : Node) → q < length ys → q < 64 → zs ≡ upto (node_of n s) 0 q ys → x ≡ placed_node n s q
    → set zs q x ≡ upto (node_of n s) 0 (q + 1) ys
unfolding node_of
one_more n s q ys zs x l low e h =
    ap (λ (r : List Node). set r q x) e
    ∙ ap (set (upto (node_of n s) 0 q ys) q) (h ∙ ap (λ (b : Bool). cond b (placed_node n s q) (get_or ys q x)) (sym (lt-ltb q 64 low)))
    ∙ upto-set (node_of n s) q ys x l

pub loop-q-init : goal.loop-q-init
loop-q-init c = sym (upto-none _ _)

pub loop-q-preserved : goal.loop-q-preserved
loop-q-preserved c =
    let a = c.args in
    one_more a.n a.states.now c.loop-q.q a.row.now c.loop-q.row _ (omega arith) (omega arith) c.loop-q.invariant c.node_of.ensures

pub returns : goal.returns
returns c = c.loop-q.invariant ∙ upto_all c.args.n c.args.states.now 0 c.loop-q.q c.args.row.now (omega arith)
