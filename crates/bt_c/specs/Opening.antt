-- Which picker a pointer gets.
use Rattle.std.specs.Prelude.{Bool, true, false, ◌≡◌, ◌≢◌, ℕ, ◌≤◌, ◌/◌, ◌%◌, ◌==◌, Option, None, Some, List, [], length, replicate, if◌then◌else◌}
use Rattle.std.specs.Simd.{first_chunks}
use Rattle.std.specs.declared.result.Result.{Result}
use Rattle.std.specs.declared.result.Result.TheVariants.{Ok, Err}
use Rattle.bt_meta.specs.declared.fault.MetaFault.{MetaFault}
use Rattle.bt_meta.specs.declared.fault.MetaFault.TheVariants.{PiecesLength}
use Rattle.bt_bencode.specs.Reading.{◌>>=◌}
use Rattle.bt_meta.specs.Files.{Listed, files_of_file}
use Rattle.bt_meta.specs.Layout.{Layout, Metainfo as Torrent, torrent_of}
use Rattle.bt_meta.specs.Reading.{torrent_of_file}
use Rattle.bt_history.specs.declared.rules.TheConstants.{MOST_OPEN, MOST_TOLD_DEPTH, MOST_WORKERS}
use Rattle.bt_history.specs.Setting.{AreRules, setting_of}
use Rattle.bt_c.specs.declared.engine.Keeping.{Keeping}
use Rattle.bt_c.specs.declared.engine.Keeping.TheVariants.{Nothing, Begun, Journal}
use Rattle.bt_c.specs.declared.fault.Fault.{Fault}
use Rattle.bt_c.specs.declared.fault.Fault.TheVariants.{Open, Options, Worker, NoMemory, Rules, Metainfo}
use Rattle.bt_c.specs.declared.held.Held.{Held}
use Rattle.bt_c.specs.declared.options.Options.{Options as Choices}
use Rattle.bt_c.specs.Behind.{keeping, state}
use Rattle.bt_c.specs.Outcomes.{Done, status_of}
use Rattle.bt_c.specs.Rules.{rules}
use Rattle.bt_c.specs.contracts.picker_handle.PickerHandle as handle

-- a picker may have so many workers
abbrev pub AreWorkers : ℕ → Type 0
AreWorkers w = (1 ≤ w) × (w ≤ MOST_WORKERS)

-- what the number says is kept
abbrev pub keeping_by : ℕ → Option Keeping
keeping_by n = if n == 0 then Some Nothing else if n == 1 then Some Begun else if n == 2 then Some Journal else None

-- a picker of the torrent may go by these choices
abbrev pub AreChoices : Layout → Choices → Type 0
AreChoices t o = AreRules t (rules o)
    × ((1 ≤ o.deepest) × (o.deepest ≤ MOST_TOLD_DEPTH) × ((1 ≤ o.askers) × (o.askers ≤ MOST_WORKERS)) × (o.«open» ≤ MOST_OPEN)
    × ((o.rush ≤ MOST_TOLD_DEPTH) × (o.shown ≤ 1)))

-- the options are of this interface, and say what is kept
abbrev pub AreOptions : Choices → Type 0
AreOptions o = (o.size ≡ 40) × (keeping_by o.keeps ≢ None)

-- digests of 20 bytes, one behind the other
abbrev pub digests_in : List ℕ → List (List ℕ)
digests_in bytes = first_chunks 20 (length bytes / 20) bytes

-- the torrent of these parts, whose infohash isn't told, or the first fault
abbrev pub torrent_of_parts : ℕ → ℕ → List ℕ → Result Torrent MetaFault
torrent_of_parts piece_length total digests =
    if length digests % 20 == 0 then torrent_of piece_length total (digests_in digests) (replicate 20 0)
    else Err PiecesLength

-- what a caller hands in: a torrent, and the files of which its content is made, where they are listed
pub record Described : Type 0 where
  pub torrent : Torrent
  pub files : List Listed

-- what a caller hands in describes this, or has this fault
abbrev pub Reading : Type 0
Reading = Result Described MetaFault

-- what a metainfo file describes, or its first fault
abbrev pub described_in : List ℕ → Reading
described_in metainfo = torrent_of_file metainfo >>= λ t. files_of_file metainfo >>= λ files. Ok (record { torrent = t; files = files })

-- what parts describe: they list no files
abbrev pub described_by : ℕ → ℕ → List ℕ → Reading
described_by piece_length total digests = torrent_of_parts piece_length total digests >>= λ t. Ok (record { torrent = t; files = [] })

-- a new picker of the torrent by these choices, which was told nothing
pub record IsNew (d : Described) (o : Choices) (h : Held) : Type 0 where
  pub torrent : h.torrent.value ≡ d.torrent
  pub files : h.files.items ≡ d.files
  pub setting : (state h).setting ≡ setting_of d.torrent.layout o.workers (rules o)
  pub history : (state h).history ≡ []
  pub keeping : keeping_by o.keeps ≡ Some (keeping h)

-- what came of making a picker of a torrent that is read so, or the first fault
abbrev pub Opened : Reading → Choices → Result Held Fault → Type 0
Opened reading o (Ok h) = AreOptions o × AreWorkers o.workers
    × ((d : Described) × (reading ≡ Ok d) × AreChoices d.torrent.layout o × IsNew d o h)
Opened reading o (Err Options) = AreOptions o → ⊥
Opened reading o (Err Worker) = AreOptions o × (AreWorkers o.workers → ⊥)
Opened reading o (Err (Metainfo f)) = AreOptions o × AreWorkers o.workers × (reading ≡ Err f)
Opened reading o (Err Rules) = AreOptions o × AreWorkers o.workers
    × ((d : Described) × (reading ≡ Ok d) × (AreChoices d.torrent.layout o → ⊥))
Opened reading o (Err NoMemory) = AreOptions o × AreWorkers o.workers
Opened reading o (Err f) = ⊥

-- a test came out true just where this holds
abbrev pub IsDecided : Bool → Type 0 → Type 0
IsDecided true P = P
IsDecided false P = P → ⊥

-- why nothing is read: the options aren't such as this interface has, or there may not be so many workers
abbrev pub IsUnfit : Choices → Fault → Type 0
IsUnfit o Options = AreOptions o → ⊥
IsUnfit o Worker = AreOptions o × (AreWorkers o.workers → ⊥)
IsUnfit o f = ⊥

-- why there is no picker of a torrent that was read
abbrev pub IsRefusal : Layout → Choices → Fault → Type 0
IsRefusal t o Rules = AreChoices t o → ⊥
IsRefusal t o NoMemory = Unit {0}
IsRefusal t o f = ⊥

-- the handle holds the new picker, if there is one and memory for it
abbrev pub MakesHandle : Result Held Fault → Result handle.the_row.Denot Fault → Type 0
MakesHandle (Ok h) (Ok d) = d.held ≡ Some h
MakesHandle (Ok h) (Err NoMemory) = Unit {0}
MakesHandle (Err f) o = o ≡ Err f
MakesHandle opened o = ⊥

-- a pointer that isn't NULL stays, and another one gets the new picker, if there is one and memory for it
abbrev pub PutsIn : Result Held Fault → Option handle.the_row.Denot → Option handle.the_row.Denot → Done → Type 0
PutsIn opened (Some d) new o = (new ≡ Some d) × (o ≡ Err Open)
PutsIn (Ok h) None (Some e) (Ok u) = e.held ≡ Some h
PutsIn (Ok h) None None (Err NoMemory) = Unit {0}
PutsIn (Err f) None None o = o ≡ Err f
PutsIn opened None new o = ⊥

-- what came of making a picker of a torrent that is read so is put into the pointer, and the status tells it
abbrev pub Opens : Reading → Choices → Option handle.the_row.Denot → Option handle.the_row.Denot → ℕ → Type 0
Opens reading choices old new s = (opened : Result Held Fault) × Opened reading choices opened
    × ((o : Done) × PutsIn opened old new o × (s ≡ status_of o))
