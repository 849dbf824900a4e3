-- Paper 01, "Proved examples": P1 to P10 in one table, with the mistakes that P1 to P10 do not show, and request 3 in quiet presses; all that is printed of
-- every cycle, and every state after it. Then quiet cycles from given states, and what a node makes of given votes.
-- Assumes nothing.
use Rattle.std.specs.Prelude.{Bool, true, false, cond, List, [], ◌∷◌, ◌++◌, ℕ, zero, suc, ltb, eqb, get_or}
use Rattle.std.proofs.Math.Option.{Option, none, some}
use Rattle.sets.specs.Sets.{those}
use Rattle.state.specs.declared.Reason.TheVariants.{Stopped, NoQuorum, Outvoted}
use Rattle.state.specs.declared.Group.{Group}
use Rattle.state.specs.declared.State.{State}
use Rattle.state.specs.declared.State.TheVariants.{Out, Joining, Member}
use Rattle.rules.specs.declared.Vote.{Vote}
use Rattle.rules.specs.declared.Faults.{Faults}
use Rattle.rules.specs.declared.Config.{Config}
use Rattle.rules.specs.OneCycle.{of_nodes, quietly, Ballots, member_decides, joiner_decides}
use Rattle.rules.specs.Faults.{Row, at, tabulate, rule_one, votes, decides, cycle}
use Rattle.rules.specs.Reference.{Cluster, beginning, keeps, step, halted_in, entered_in}

-- what is seen of a cycle: whether it met the premise, the reference group after it, who halted and who entered, and the states after it
pub record Seen : Type 0 where
  pub kept : Bool
  pub reference : Option Group
  pub halted : ℕ
  pub entered : ℕ
  pub row : Row

-- the example's own number, n for Pn; N nodes, the founding set and the group number that it begins with, the cycles, and what is to be seen of each
pub record Example : Type 0 where
  pub example : ℕ
  pub config : Config
  pub founders : ℕ
  pub number : ℕ
  pub cycles : List Faults
  pub expected : List Seen

unfoldable pub watch : Config → Cluster → List Faults → List Seen
watch C k [] = []
watch C k (c ∷ cs) =
    let s = step C k c in
    record { kept = keeps C k c; reference = s.reference; halted = halted_in C c k.row; entered = entered_in C c k.row; row = s.row } ∷ watch C s cs

unfoldable pub seen : Example → List Seen
seen e = watch e.config (beginning e.config e.number e.founders) e.cycles

-- ---- words for the table

-- the masks stop, start, heartbeat lost and vote lost; whose heartbeats and whose votes each node misses
abbrev missing : ℕ → ℕ → ℕ → ℕ → (ℕ → ℕ) → (ℕ → ℕ) → Faults
missing s t h v beats votes =
    record { stop = s; start = t; heartbeat_lost = h; vote_lost = v; heartbeat_missed = tabulate 64 beats; vote_missed = tabulate 64 votes }

abbrev nobody's : ℕ → ℕ
nobody's q = 0

abbrev faults : ℕ → ℕ → ℕ → ℕ → Faults
faults s t h v = missing s t h v nobody's nobody's

abbrev clean : Faults
clean = faults 0 0 0 0

abbrev group : ℕ → ℕ → ℕ → Group
group g m b = record { number = g; set = m; base = b }

abbrev times : ℕ → State → Row
times zero s = []
times (suc n) s = s ∷ times n s

abbrev member : ℕ → ℕ → ℕ → State
member g m b = Member (group g m b) false

-- a member that requests in the next cycle
abbrev requesting : ℕ → ℕ → ℕ → State
requesting g m b = Member (group g m b) true

-- a cycle that met the premise, with the reference group after it; and one that did not, after which there is none
abbrev kept : Group → ℕ → ℕ → Row → Seen
kept g halted entered r = record { kept = true; reference = some g; halted = halted; entered = entered; row = r }

abbrev broken : ℕ → ℕ → Row → Seen
broken halted entered r = record { kept = false; reference = none; halted = halted; entered = entered; row = r }

-- ---- the table

abbrev pub examples : List Example
examples =
    -- "P1 the run above": N 5, founding set hex 1F; "2: heartbeat of node 4 lost in sending; 3: start node 4; 4: vote of node 0 lost in sending"
    record {
      example = 1;
      config = of_nodes 5;
      founders = 0x1f;
      number = 0;
      cycles = clean ∷ faults 0 0 0x10 0 ∷ faults 0 0x10 0 0 ∷ faults 0 0 0 0x01 ∷ clean ∷ [];
      expected =
          kept (group 0 0x1f 0x1f) 0 0 (times 5 (member 0 0x1f 0x1f))
          ∷ kept (group 1 0x0f 0x1f) 0x10 0 (times 4 (member 1 0x0f 0x1f) ++ (Out Outvoted ∷ []))
          ∷ kept (group 2 0x1f 0x1f) 0 0x10 (times 5 (member 2 0x1f 0x1f))
          ∷ kept (group 3 0x1e 0x1f) 0 0 (member 2 0x1f 0x1f ∷ times 4 (member 3 0x1e 0x1f))
          ∷ kept (group 3 0x1e 0x1e) 0x01 0 (Out NoQuorum ∷ times 4 (member 3 0x1e 0x1e))
          ∷ [];
    }
    -- "P2 two nodes, heartbeat of node 1 lost: both halt, reason 1."
    ∷ record {
      example = 2;
      config = of_nodes 2;
      founders = 0x3;
      number = 0;
      cycles = faults 0 0 0x2 0 ∷ [];
      expected = broken 0x3 0 (times 2 (Out NoQuorum)) ∷ [];
    }
    -- "P3 three nodes, node 2 stopped: set 3."
    ∷ record {
      example = 3;
      config = of_nodes 3;
      founders = 0x7;
      number = 0;
      cycles = faults 0x4 0 0 0 ∷ [];
      expected = kept (group 1 0x3 0x7) 0 0 (times 2 (member 1 0x3 0x7) ++ (Out Stopped ∷ [])) ∷ [];
    }
    -- "P4 then node 1 stopped in the next cycle: node 0 halts, reason 1." Then node 1 starts, and stops again: what is broken stays broken, and node 0 has
    -- halted before.
    ∷ record {
      example = 4;
      config = of_nodes 3;
      founders = 0x7;
      number = 0;
      cycles = faults 0x4 0 0 0 ∷ faults 0x2 0 0 0 ∷ faults 0 0x2 0 0 ∷ faults 0x2 0 0 0 ∷ [];
      expected =
          kept (group 1 0x3 0x7) 0 0 (times 2 (member 1 0x3 0x7) ++ (Out Stopped ∷ []))
          ∷ broken 0x1 0 (Out NoQuorum ∷ times 2 (Out Stopped))
          ∷ broken 0 0 (Out NoQuorum ∷ Joining ∷ Out Stopped ∷ [])
          ∷ broken 0 0 (Out NoQuorum ∷ times 2 (Out Stopped))
          ∷ [];
    }
    -- "P5 founding set 1: node 0 stays."
    ∷ record {
      example = 5;
      config = of_nodes 2;
      founders = 0x1;
      number = 0;
      cycles = clean ∷ [];
      expected = kept (group 0 0x1 0x1) 0 0 (member 0 0x1 0x1 ∷ Out Stopped ∷ []) ∷ [];
    }
    -- "P6 five nodes, node 4 stopped and started in cycle 1: out of the set after 1, in after 2."
    ∷ record {
      example = 6;
      config = of_nodes 5;
      founders = 0x1f;
      number = 0;
      cycles = faults 0x10 0x10 0 0 ∷ clean ∷ [];
      expected =
          kept (group 1 0x0f 0x1f) 0 0 (times 4 (member 1 0x0f 0x1f) ++ (Joining ∷ []))
          ∷ kept (group 2 0x1f 0x1f) 0 0x10 (times 5 (member 2 0x1f 0x1f))
          ∷ [];
    }
    -- "P7 nine nodes, four stopped: five stay."
    ∷ record {
      example = 7;
      config = of_nodes 9;
      founders = 0x1ff;
      number = 0;
      cycles = faults 0x1e0 0 0 0 ∷ [];
      expected = kept (group 1 0x01f 0x1ff) 0 0 (times 5 (member 1 0x01f 0x1ff) ++ times 4 (Out Stopped)) ∷ [];
    }
    -- "P8 five stopped: all halt."
    ∷ record {
      example = 8;
      config = of_nodes 9;
      founders = 0x1ff;
      number = 0;
      cycles = faults 0x1f0 0 0 0 ∷ [];
      expected = broken 0x00f 0 (times 4 (Out NoQuorum) ++ times 5 (Out Stopped)) ∷ [];
    }
    -- "P9 nine nodes, nodes 0 to 3 miss the votes of 5 to 8: they hold hex 1F, the rest 1FF; after a clean cycle 0 to 3 have halted with reason 1 and the
    -- rest hold 1F0."
    ∷ record {
      example = 9;
      config = of_nodes 9;
      founders = 0x1ff;
      number = 0;
      cycles = missing 0 0 0 0 nobody's (λ q. cond (ltb q 4) 0x1e0 0) ∷ clean ∷ [];
      expected =
          kept (group 0 0x1ff 0x1ff) 0 0 (times 4 (member 1 0x01f 0x1ff) ++ times 5 (member 0 0x1ff 0x1ff))
          ∷ kept (group 1 0x1f0 0x1ff) 0x00f 0 (times 4 (Out NoQuorum) ++ times 5 (member 1 0x1f0 0x1ff))
          ∷ [];
    }
    -- "P10 as P3, but all three members begin with G 4294967295: set 3, G 0."
    ∷ record {
      example = 10;
      config = of_nodes 3;
      founders = 0x7;
      number = 4294967295;
      cycles = faults 0x4 0 0 0 ∷ [];
      expected = kept (group 0 0x3 0x7) 0 0 (times 2 (member 0 0x3 0x7) ++ (Out Stopped ∷ [])) ∷ [];
    }
    -- "A join heartbeat of a present member taken as a sign of life": five nodes, node 4 stopped and started, node 3 misses its heartbeat. Node 3 stays,
    -- since the join heartbeat counts for nothing with the others either.
    ∷ record {
      example = 11;
      config = of_nodes 5;
      founders = 0x1f;
      number = 0;
      cycles = missing 0x10 0x10 0 0 (λ q. cond (eqb q 3) 0x10 0) nobody's ∷ [];
      expected = kept (group 1 0x0f 0x1f) 0 0 (times 4 (member 1 0x0f 0x1f) ++ (Joining ∷ [])) ∷ [];
    }
    -- "A joiner that believes the first vote it hears": five nodes, founding set F. Node 0 misses the vote of node 1 and holds hex D; node 4 then joins, and
    -- the first vote that it hears is that of node 0. It enters with the others, and node 0 halts.
    ∷ record {
      example = 12;
      config = of_nodes 5;
      founders = 0x0f;
      number = 0;
      cycles = missing 0 0 0 0 nobody's (λ q. cond (eqb q 0) 0x02 0) ∷ faults 0 0x10 0 0 ∷ [];
      expected =
          kept (group 0 0x0f 0x0f) 0 0 (member 1 0x0d 0x0f ∷ (times 3 (member 0 0x0f 0x0f) ++ (Out Stopped ∷ [])))
          ∷ kept (group 1 0x1e 0x1f) 0x01 0x10 (Out NoQuorum ∷ times 4 (member 1 0x1e 0x1f))
          ∷ [];
    }
    -- "Marks count even if no frame was sent": four nodes, founding set 7. Nodes 0 and 1 are marked as missing the vote of node 3, which is out. The
    -- premise is broken for good, though nobody halts; node 3 then enters, and node 2 halts.
    ∷ record {
      example = 13;
      config = of_nodes 4;
      founders = 0x7;
      number = 0;
      cycles = missing 0 0 0 0 nobody's (λ q. cond (ltb q 2) 0x8 0) ∷ faults 0 0x8 0 0 ∷ faults 0 0 0x4 0 ∷ [];
      expected =
          broken 0 0 (times 3 (member 0 0x7 0x7) ++ (Out Stopped ∷ []))
          ∷ broken 0 0x8 (times 4 (member 1 0xf 0xf))
          ∷ broken 0x4 0 (times 2 (member 2 0xb 0xf) ++ (Out Outvoted ∷ member 2 0xb 0xf ∷ []))
          ∷ [];
    }
    -- Request 3: "agreement, the halting of strays and the two-cycle join hold in it under the same premise": P1 on a quiet press, where the same is printed.
    ∷ record {
      example = 16;
      config = quietly 5;
      founders = 0x1f;
      number = 0;
      cycles = clean ∷ faults 0 0 0x10 0 ∷ faults 0 0x10 0 0 ∷ faults 0 0 0 0x01 ∷ clean ∷ [];
      expected =
          kept (group 0 0x1f 0x1f) 0 0 (times 5 (member 0 0x1f 0x1f))
          ∷ kept (group 1 0x0f 0x1f) 0x10 0 (times 4 (requesting 1 0x0f 0x1f) ++ (Out Outvoted ∷ []))
          ∷ kept (group 2 0x1f 0x1f) 0 0x10 (times 5 (requesting 2 0x1f 0x1f))
          ∷ kept (group 3 0x1e 0x1f) 0 0 (member 2 0x1f 0x1f ∷ times 4 (requesting 3 0x1e 0x1f))
          ∷ kept (group 3 0x1e 0x1e) 0x01 0 (Out NoQuorum ∷ times 4 (member 3 0x1e 0x1e))
          ∷ [];
    }
    -- "A member that did not vote halts with reason 2 if it heard a quorum of equal votes with its own G, M and B": three nodes, heartbeat of node 1 lost.
    -- Nodes 0 and 2 vote, since their V differs from M; node 1 heard all, and did not.
    ∷ record {
      example = 17;
      config = quietly 3;
      founders = 0x7;
      number = 0;
      cycles = faults 0 0 0x2 0 ∷ [];
      expected = kept (group 1 0x5 0x7) 0x2 0 (requesting 1 0x5 0x7 ∷ Out Outvoted ∷ requesting 1 0x5 0x7 ∷ []) ∷ [];
    }
    -- "It requests in the cycle after one in which its V differed from M, its set changed, or rule 6 made it a member", and in no other: two nodes, founding
    -- set 2. Node 0 starts; both request in cycle 2, and not in 3.
    ∷ record {
      example = 18;
      config = quietly 2;
      founders = 0x2;
      number = 0;
      cycles = faults 0 0x1 0 0 ∷ clean ∷ clean ∷ [];
      expected =
          kept (group 1 0x3 0x3) 0 0x1 (times 2 (requesting 1 0x3 0x3))
          ∷ kept (group 1 0x3 0x3) 0 0 (times 2 (member 1 0x3 0x3))
          ∷ kept (group 1 0x3 0x3) 0 0 (times 2 (member 1 0x3 0x3))
          ∷ [];
    }
    -- "A member votes exactly when .. a member of M heard .. requests": three nodes, heartbeat of node 2 lost, and node 2 misses the vote of node 1. It did
    -- not vote, heard no quorum and stays behind; the requests of the others then make it vote, and it halts.
    ∷ record {
      example = 19;
      config = quietly 3;
      founders = 0x7;
      number = 0;
      cycles = missing 0 0 0x4 0 nobody's (λ q. cond (eqb q 2) 0x2 0) ∷ clean ∷ [];
      expected =
          kept (group 1 0x3 0x7) 0 0 (times 2 (requesting 1 0x3 0x7) ++ (member 0 0x7 0x7 ∷ []))
          ∷ kept (group 1 0x3 0x3) 0x4 0 (times 2 (member 1 0x3 0x3) ++ (Out NoQuorum ∷ []))
          ∷ [];
    }
    -- "or it itself, requests": three nodes, node 1 stopped and then started. Node 2 misses its vote in cycle 3 and holds 5, of which nobody else requests:
    -- its own request makes it vote, and it halts.
    ∷ record {
      example = 20;
      config = quietly 3;
      founders = 0x7;
      number = 0;
      cycles = faults 0x2 0 0 0 ∷ faults 0 0x2 0 0 ∷ missing 0 0 0 0 nobody's (λ q. cond (eqb q 2) 0x2 0) ∷ clean ∷ [];
      expected =
          kept (group 1 0x5 0x7) 0 0 (requesting 1 0x5 0x7 ∷ Out Stopped ∷ requesting 1 0x5 0x7 ∷ [])
          ∷ kept (group 2 0x7 0x7) 0 0x2 (times 3 (requesting 2 0x7 0x7))
          ∷ kept (group 2 0x7 0x7) 0 0 (times 2 (member 2 0x7 0x7) ++ (requesting 3 0x5 0x7 ∷ []))
          ∷ kept (group 3 0x3 0x7) 0x4 0 (times 2 (requesting 3 0x3 0x7) ++ (Out NoQuorum ∷ []))
          ∷ [];
    }
    -- "its new set is the senders whose counted vote has that V": four nodes, node 3 starts, and node 2 misses its heartbeat. Nodes 0 and 1 vote and let node 3
    -- in; node 2, which they heard, saw its set and did not vote: it is not in the new set, and halts.
    ∷ record {
      example = 28;
      config = quietly 4;
      founders = 0x7;
      number = 0;
      cycles = missing 0 0x8 0 0 (λ q. cond (eqb q 2) 0x8 0) nobody's ∷ [];
      expected = kept (group 1 0xb 0xf) 0x4 0x8 (times 2 (requesting 1 0xb 0xf) ++ (Out Outvoted ∷ requesting 1 0xb 0xf ∷ [])) ∷ [];
    }
    ∷ []

-- ---- cycles from given states

-- what is seen of such a cycle: who voted in it, and the states after it
pub record Turn : Type 0 where
  pub voted : ℕ
  pub row : Row

-- the example's own number; the states of N nodes, the cycles, and what is to be seen of each
pub record Lent : Type 0 where
  pub example : ℕ
  pub config : Config
  pub row : Row
  pub cycles : List Faults
  pub expected : List Turn

abbrev pub sent_one : Option Vote → Bool
sent_one none = false
sent_one (some v) = true

unfoldable pub turns : Config → Row → List Faults → List Turn
turns C row [] = []
turns C row (c ∷ cs) =
    let sent = votes C c (rule_one C.nodes c row) in
    let next = cycle C c row in
    record { voted = those C.nodes (λ q. sent_one (get_or sent q none)); row = next } ∷ turns C next cs

unfoldable pub turned : Lent → List Turn
turned l = turns l.config l.row l.cycles

abbrev turn : ℕ → Row → Turn
turn voted r = record { voted = voted; row = r }

abbrev pub lent : List Lent
lent =
    -- "Otherwise it keeps G and M, and B becomes M": nodes 0 and 1 of a group whose base still holds node 2.
    record {
      example = 21;
      config = quietly 3;
      row = times 2 (member 5 0x3 0x7) ++ (Out Stopped ∷ []);
      cycles = clean ∷ [];
      expected = turn 0 (times 2 (member 5 0x3 0x3) ++ (Out Stopped ∷ [])) ∷ [];
    }
    -- "A member of M heard": two groups of two nodes each. Node 0 hears nodes 2 and 3 request, node 1 misses them. They are not of M, and neither votes; node
    -- 0 alone would have halted.
    ∷ record {
      example = 22;
      config = quietly 4;
      row = times 2 (member 7 0x3 0x3) ++ times 2 (requesting 7 0xc 0xc);
      cycles = missing 0 0 0 0 (λ q. cond (eqb q 1) 0xc 0) nobody's ∷ [];
      expected = turn 0xc (times 2 (member 7 0x3 0x3) ++ times 2 (member 7 0xc 0xc)) ∷ [];
    }
    -- "Lets votes rest while nothing happens": the votes of a request are the last.
    ∷ record {
      example = 25;
      config = quietly 2;
      row = times 2 (requesting 1 0x3 0x3);
      cycles = clean ∷ clean ∷ [];
      expected = turn 0x3 (times 2 (member 1 0x3 0x3)) ∷ turn 0 (times 2 (member 1 0x3 0x3)) ∷ [];
    }
    -- "Or it itself, requests": the heartbeat of node 0 is lost in sending. It heard node 1, and votes by its own request.
    ∷ record {
      example = 26;
      config = quietly 2;
      row = requesting 1 0x3 0x3 ∷ member 1 0x3 0x3 ∷ [];
      cycles = faults 0 0 0x1 0 ∷ [];
      expected = turn 0x3 (times 2 (Out NoQuorum)) ∷ [];
    }
    ∷ []

-- ---- a node alone

-- the example's own number; what a node makes of votes, the votes that arrived, by sender, and what it decides
pub record Given : Type 0 where
  pub example : ℕ
  pub rule : Ballots → State
  pub votes : List (Option Vote)
  pub expected : State

unfoldable pub ruled : Given → State
ruled g = g.rule (λ p. get_or g.votes p none)

abbrev vote : ℕ → ℕ → ℕ → ℕ → Option Vote
vote g m b v = some (record { group = group g m b; view = v })

-- node 0 of a quiet press of N nodes, in a cycle without faults whose row is the given one: it hears all who send
abbrev in_row : ℕ → Row → Ballots → State
in_row N row = decides (quietly N) clean row 0 (at row 0)

abbrev pub given : List Given
given =
    -- "If exactly one vote value fits": that of nodes 0 and 1 does, and so does that of nodes 2 and 3. Node 4 "stays joining".
    record {
      example = 14;
      rule = joiner_decides (of_nodes 5) 4;
      votes = vote 7 0x03 0x03 0x13 ∷ vote 7 0x03 0x03 0x13 ∷ vote 7 0x0c 0x0c 0x1c ∷ vote 7 0x0c 0x0c 0x1c ∷ [];
      expected = Joining;
    }
    -- The vote of node 3 is missed, so that one value alone has a quorum.
    ∷ record {
      example = 15;
      rule = joiner_decides (of_nodes 5) 4;
      votes = vote 7 0x03 0x03 0x13 ∷ vote 7 0x03 0x03 0x13 ∷ vote 7 0x0c 0x0c 0x1c ∷ none ∷ [];
      expected = member 8 0x13 0x13;
    }
    -- "If it heard a quorum of equal votes with its own G, M and B": also where their V is its own. It heard its whole set and no request, and did not vote.
    ∷ record {
      example = 23;
      rule = in_row 3 (times 3 (member 4 0x7 0x7));
      votes = none ∷ vote 4 0x7 0x7 0x7 ∷ vote 4 0x7 0x7 0x7 ∷ [];
      expected = Out Outvoted;
    }
    -- One vote of three is no quorum, and node 0 "did not vote": it adds none of its own.
    ∷ record {
      example = 24;
      rule = in_row 3 (times 3 (member 4 0x7 0x7));
      votes = none ∷ vote 4 0x7 0x7 0x7 ∷ none ∷ [];
      expected = member 4 0x7 0x7;
    }
    -- "with its own G, M and B": votes with another G, with another M and with another B are no reason to halt.
    ∷ record {
      example = 29;
      rule = in_row 3 (times 3 (member 4 0x7 0x7));
      votes = none ∷ vote 5 0x7 0x7 0x7 ∷ vote 5 0x7 0x7 0x7 ∷ [];
      expected = member 4 0x7 0x7;
    }
    ∷ record {
      example = 30;
      rule = in_row 3 (times 3 (member 4 0x7 0x7));
      votes = none ∷ vote 4 0x6 0x7 0x7 ∷ vote 4 0x6 0x7 0x7 ∷ [];
      expected = member 4 0x7 0x7;
    }
    ∷ record {
      example = 31;
      rule = in_row 4 (times 3 (member 4 0x7 0xf) ++ (Out Stopped ∷ []));
      votes = none ∷ vote 4 0x7 0x7 0x7 ∷ vote 4 0x7 0x7 0x7 ∷ none ∷ [];
      expected = member 4 0x7 0x7;
    }
    -- "It requests in the cycle after one in which its V differed from M": also where its set did not change, by a vote of node 1 that does not hold node 1.
    ∷ record {
      example = 27;
      rule = member_decides (quietly 2) 0 (record { group = group 4 0x3 0x3; view = 0x1 });
      votes = none ∷ vote 4 0x3 0x3 0x1 ∷ [];
      expected = requesting 4 0x3 0x3;
    }
    ∷ []
