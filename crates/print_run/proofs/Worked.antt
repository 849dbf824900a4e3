-- Printed runs, byte by byte: that of paper 01, and others, of both modes, whose text comes from other code. Assumes nothing.
use mathlib.Core.Path.{◌≡◌, refl}
use mathlib.Core.Bool.{Bool, true, false}
use mathlib.Core.List.{List, [], ◌∷◌, ◌++◌, map}
use Prim.Native.Nat.{ℕ}
use native.Mathlib.Omega.{arith}
use lib.Count.{ones}
use Rattle.sets.specs.Sets.{has, single, ◌∪◌, ◌∩◌, ◌∖◌, those, below, size, lowest, any, every}
use Rattle.sets.specs.Quorum.{quorum}
use Rattle.bigendian.specs.BigEndian.{bytes_of, number_at}
use Rattle.refusal.specs.Refusal.{first}
use Rattle.state.specs.State.{next_number}
use Rattle.rules.specs.OneCycle.{stop_and_start, view_of, same_group, same_vote, voters, wins, new_set, group_with, new_group, called, will_vote, request_with, request_after, member_decides, silent_decides, joiner_decides}
use Rattle.rules.specs.Faults.{tabulate, founding, reaches, disturbed, rule_one, heard, own_vote, votes_now, votes, decisions, cycle}
use Rattle.rules.specs.Reference.{beginning, steady, keeps, step, halted_in, entered_in}
use Rattle.rules.proofs.Failing.{equal_numbers, equal-lists, failing, all_hold}
use Rattle.table.specs.Records.{mark, marked, start_refusal, good_entry, masks_beyond, wrong_cycle, cycle_refusal, missed_of, faults_at}
use Rattle.table.specs.Table.{cycles_in, table_of}
use Rattle.print_text.specs.Text.{ascii, glyph, digits, hex_text, places, decimal_text}
use Rattle.print_run.specs.Printed.{header_line, promise_text, group_text, masks_text, fields, line, lines, refused_line, reported, printed}

-- a table, with a number to name it by (that of crates/rules/specs/Examples.antt, where it is there), and what is printed for it in the mode
pub record Run : Type 0 where
  pub example : ℕ
  pub quiet : Bool
  pub table : List ℕ
  pub text : List ℕ

abbrev start : ℕ → ℕ → List ℕ
start n founding = mark ++ (1 ∷ n ∷ bytes_of 8 founding)

-- the masks stop, start, heartbeat lost and vote lost, and the count and the entries
abbrev record_of : ℕ → ℕ → ℕ → ℕ → List ℕ → List ℕ
record_of s t h v entries = mark ++ (2 ∷ (bytes_of 8 s ++ (bytes_of 8 t ++ (bytes_of 8 h ++ (bytes_of 8 v ++ entries)))))

abbrev cycle_of : ℕ → ℕ → ℕ → ℕ → List ℕ
cycle_of s t h v = record_of s t h v (0 ∷ [])

-- "founding set hex 1F, N 5 and five cycles (2: heartbeat of node 4 lost in sending; 3: start node 4; 4: vote of node 0 lost in sending)"
abbrev paper_table : List ℕ
paper_table = start 5 0x1f ++ (cycle_of 0 0 0 0 ++ (cycle_of 0 0 0x10 0 ++ (cycle_of 0 0x10 0 0 ++ (cycle_of 0 0 0 0x01 ++ cycle_of 0 0 0 0))))

abbrev paper_text : List ℕ
paper_text =
    ascii "cycle promise group set halted entered\n"
    ++ (ascii "1 kept 0 000000000000001f 0000000000000000 0000000000000000\n"
    ++ (ascii "2 kept 1 000000000000000f 0000000000000010 0000000000000000\n"
    ++ (ascii "3 kept 2 000000000000001f 0000000000000000 0000000000000010\n"
    ++ (ascii "4 kept 3 000000000000001e 0000000000000000 0000000000000000\n"
    ++ ascii "5 kept 3 000000000000001e 0000000000000001 0000000000000000\n"))))

abbrev pub runs : List Run
runs =
    -- P1, which is the printed run of the paper
    record {
      example = 1;
      quiet = false;
      table = paper_table;
      text = paper_text;
    }
    -- P4, and node 1 starts and stops again: broken stays broken, and who halted is shown once
    ∷ record {
      example = 4;
      quiet = false;
      table = start 3 0x7 ++ (cycle_of 0x4 0 0 0 ++ (cycle_of 0x2 0 0 0 ++ (cycle_of 0 0x2 0 0 ++ cycle_of 0x2 0 0 0)));
      text =
          ascii "cycle promise group set halted entered\n"
          ++ (ascii "1 kept 1 0000000000000003 0000000000000000 0000000000000000\n"
          ++ (ascii "2 broken - - 0000000000000001 0000000000000000\n"
          ++ (ascii "3 broken - - 0000000000000000 0000000000000000\n"
          ++ ascii "4 broken - - 0000000000000000 0000000000000000\n")));
    }
    -- P6: node 4 stopped and started in cycle 1
    ∷ record {
      example = 6;
      quiet = false;
      table = start 5 0x1f ++ (cycle_of 0x10 0x10 0 0 ++ cycle_of 0 0 0 0);
      text =
          ascii "cycle promise group set halted entered\n"
          ++ (ascii "1 kept 1 000000000000000f 0000000000000000 0000000000000000\n"
          ++ ascii "2 kept 2 000000000000001f 0000000000000000 0000000000000010\n");
    }
    -- Nodes 0 and 1 are marked as missing the vote of node 3, which is out: broken, and after it node 3 enters and node 2 halts.
    ∷ record {
      example = 13;
      quiet = false;
      table =
          start 4 0x7 ++ (record_of 0 0 0 0 (2 ∷ 0x80 ∷ (bytes_of 8 0x8 ++ (0x81 ∷ bytes_of 8 0x8))) ++ (cycle_of 0 0x8 0 0 ++ cycle_of 0 0 0x4 0));
      text =
          ascii "cycle promise group set halted entered\n"
          ++ (ascii "1 broken - - 0000000000000000 0000000000000000\n"
          ++ (ascii "2 broken - - 0000000000000000 0000000000000008\n"
          ++ ascii "3 broken - - 0000000000000004 0000000000000000\n"));
    }
    -- the first two cycles of P1, and one that starts node 40
    ∷ record {
      example = 99;
      quiet = false;
      table = start 5 0x1f ++ (cycle_of 0 0 0 0 ++ (cycle_of 0 0 0x10 0 ++ cycle_of 0 0x10000000000 0 0));
      text =
          ascii "cycle promise group set halted entered\n"
          ++ (ascii "1 kept 0 000000000000001f 0000000000000000 0000000000000000\n"
          ++ (ascii "2 kept 1 000000000000000f 0000000000000010 0000000000000000\n"
          ++ ascii "refused 13\n"));
    }
    -- the table of P1 in mode 1: "agreement, the halting of strays and the two-cycle join hold in it under the same premise", and the lines are the same
    ∷ record {
      example = 16;
      quiet = true;
      table = paper_table;
      text = paper_text;
    }
    -- Heartbeat of node 2 lost, and node 2 misses the vote of node 1: it was silent, and halts a cycle later than in mode 0.
    ∷ record {
      example = 19;
      quiet = true;
      table = start 3 0x7 ++ (record_of 0 0 0x4 0 (1 ∷ 0x82 ∷ bytes_of 8 0x2) ++ cycle_of 0 0 0 0);
      text =
          ascii "cycle promise group set halted entered\n"
          ++ (ascii "1 kept 1 0000000000000003 0000000000000000 0000000000000000\n"
          ++ ascii "2 kept 1 0000000000000003 0000000000000004 0000000000000000\n");
    }
    ∷ []

abbrev number : Run → ℕ
number r = r.example

abbrev given : Run → List ℕ
given r = printed r.quiet r.table

abbrev text : Run → List ℕ
text r = r.text

-- no run is printed otherwise, by computation; where one is, the error says at which number `failed` is not 0
none_fails : (failed : ℕ) → failed ≡ failing Run (List ℕ) number given text (equal-lists ℕ equal_numbers) runs → failed ≡ 0
unfolding ones has single ◌∪◌ ◌∩◌ ◌∖◌ those below size lowest any every quorum bytes_of number_at first next_number stop_and_start view_of same_group same_vote voters wins new_set group_with new_group called will_vote request_with request_after member_decides silent_decides joiner_decides tabulate founding reaches disturbed rule_one heard own_vote votes_now votes decisions cycle beginning steady keeps step halted_in entered_in marked start_refusal good_entry masks_beyond wrong_cycle cycle_refusal missed_of faults_at cycles_in table_of ascii glyph digits hex_text places decimal_text header_line promise_text group_text masks_text fields line lines refused_line reported printed
none_fails failed e = omega arith

pub runs_printed : map given runs ≡ map text runs
runs_printed = all_hold Run (List ℕ) number given text (equal-lists ℕ equal_numbers) runs (none_fails _ refl)
