-- What a session still has to print, and what one record gives of it.
-- Assumes nothing.
use Rattle.std.specs.Prelude.{◌≡◌, Bool, true, false, ◌&&◌, List, ℕ, leb, length, Option, None, Some, is_none}
use Rattle.rules.specs.declared.Config.{Config}
use Rattle.rules.specs.OneCycle.{config_of}
use Rattle.rules.specs.Reference.{Cluster, beginning}
use Rattle.table.specs.Records.{cycle_length}
use Rattle.table.specs.Table.{cycles_in, table_of}
use Rattle.cluster_states.specs.declared.States.{States}
use Rattle.cluster_watched.specs.Watched.{cluster_of}
use Rattle.print_run.specs.Printed.{lines}
use Rattle.print_window.specs.Window.{Report, lastly}
use Rattle.print_window.specs.Stream.{Turned}
use Rattle.print_pieces.specs.declared.Course.{Course}
use Rattle.print_pieces.specs.declared.Session.{Session}
use Rattle.print_pieces.specs.declared.Session.TheVariants.{Fresh, Begun}
use Rattle.print_pieces.specs.declared.Piece.{Piece}

-- what is still to be printed of a cluster before cycle k, of whose table `rest` is left
unfoldable pub following : Config → ℕ → Cluster → List ℕ → Report
following C k b rest = let t = cycles_in (length rest) C.nodes k rest in record { lines = lines C k b t.whole; refusal = t.refusal }

-- what is to be printed of a whole table in a mode, after the header line
unfoldable pub opening : Bool → List ℕ → Report
opening quiet s =
    let t = table_of false 0 s in
    let C = config_of quiet t.nodes in
    record { lines = lines C 1 (beginning C 0 t.founding) t.cycles.whole; refusal = t.cycles.refusal }

-- the cluster as it stands, with the states of its nodes, which the caller holds
abbrev pub standing : Course → States → Cluster
standing z x = cluster_of z.config.nodes x z.watch

-- what is still to be printed of a session, and of one that is over
unfoldable pub remaining : Session → States → List ℕ → Report
remaining (Fresh quiet) x rest = opening quiet rest
remaining (Begun z) x rest = following z.config z.cycle (standing z x) rest

abbrev pub remaining_if : Option Session → States → List ℕ → Report
remaining_if None x rest = lastly 0
remaining_if (Some z) x rest = remaining z x rest

-- whether the first record is read
abbrev pub is_begun : Session → Bool
is_begun (Fresh quiet) = false
is_begun (Begun z) = true

abbrev pub is_begun_if : Option Session → Bool
is_begun_if None = true
is_begun_if (Some z) = is_begun z

-- the next record is whole in what is seen: the first record, or a later one
unfoldable pub whole_in : Bool → List ℕ → Bool
whole_in false s = leb 12 (length s)
whole_in true s = leb 36 (length s) && leb (cycle_length s) (length s)

-- the longest record: 36 bytes and 255 entries of 9
abbrev pub longest : ℕ
longest = 2331

-- a run before cycle 1
pub record CourseBegun (C : Config) (founding : ℕ) (z : Course) (x : States) : Type 0 where
  pub config : z.config ≡ C
  pub first : z.cycle ≡ 1
  pub cluster : cluster_of C.nodes x z.watch ≡ beginning C 0 founding

-- a print between two records: its session, none once it is over, and the states that the caller holds
pub record Print : Type 0 where
  pub session : Option Session
  pub states : States

abbrev pub print_of : Option Session → States → Print
print_of z x = record { session = z; states = x }

-- the stream that it is: what is due in it, and whether its next record is whole
abbrev pub due : Print → List ℕ → Report
due p rest = remaining_if p.session p.states rest

abbrev pub whole : Print → List ℕ → Bool
whole p s = whole_in (is_begun_if p.session) s

-- a line is of at most 100 bytes, and a cycle's record of at least 36
abbrev pub rate : ℕ
rate = 3

-- A piece p of the print of a session z with the states x, of which `left` is seen, appended to the buffer `out` at `at`, which makes it `out'`; it leaves the states x'.
abbrev pub Gives : Session → States → List ℕ → List ℕ → ℕ → List ℕ → Piece → States → Type 0
Gives z x left out at out' p x' = Turned due whole rate (print_of (Some z) x) left out at (print_of p.session x') out' p.taken p.at (is_none p.session)
