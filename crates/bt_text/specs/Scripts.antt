-- Which bytes are a script, and at which line one that isn't is at fault.
use Rattle.std.specs.Prelude.{◌≡◌, ◌≢◌, ◌⊎◌, ◌<◌, ◌≤◌, ◌+◌, ◌==◌, ℕ, List, [], length, take, slice_index_or, Option, Some, None, Result, Ok, Err}
use Rattle.std.specs.List.{slice_split}
use Rattle.std.specs.Io.KnownBytes.{Appends}
use Rattle.bt_history.specs.declared.rules.Rules.{Rules}
use Rattle.bt_history.specs.Setting.{usual_rules}
use Rattle.bt_meta.specs.declared.fault.BitFault.{BitFault}
use Rattle.bt_meta.specs.declared.fault.BitFault.TheVariants as bitfault
use Rattle.bt_meta.specs.Layout.{piece_count}
use Rattle.bt_meta.specs.WireBits.{HasSpareBit, wire_len}
use Rattle.bt_text.specs.declared.fault.Fault.{Fault}
use Rattle.bt_text.specs.declared.fault.Fault.TheVariants as faults
use Rattle.bt_text.specs.declared.script.fault.LineFault.{LineFault}
use Rattle.bt_text.specs.declared.script.fault.LineFault.TheVariants.{NotAllowed, NoMemory}
use Rattle.bt_text.specs.declared.script.setup.Setup.{Setup}
use Rattle.bt_text.specs.Lines.{Order, OrderLine, bits, want, haves, line_in}
use Rattle.bt_text.specs.RulesLines.{rules_in}
use Rattle.bt_text.specs.Setups.{setup_in}
use Rattle.bt_text.specs.PlayedLines.{IsPrintedOf}

-- what became of a line, by whether it can be done. Memory may run out
abbrev pub Judges : {X : Type 0} → Result X LineFault → Type 0 → Type 0
Judges (Ok x) can = can
Judges (Err NotAllowed) can = ¬ can
Judges (Err NoMemory) can = Unit {0}

-- a fault of a bitfield as one of the line
abbrev pub of_bits : BitFault → LineFault
of_bits bitfault.NoMemory = NoMemory
of_bits fault = NotAllowed

-- a fault of line `index`, counted from 0, as one of the command
abbrev pub of_line : LineFault → ℕ → Fault
of_line NotAllowed index = faults.Line (index + 1)
of_line NoMemory index = faults.Memory

-- the bytes spell a set of so many pieces
abbrev pub IsPayload : ℕ → List ℕ → Type 0
IsPayload pieces bytes = (length bytes ≡ wire_len pieces) × ¬ (HasSpareBit bytes pieces)

-- a set of pieces is one of a torrent of so many pieces
abbrev pub IsOfTorrent : ℕ → Order → Type 0
IsOfTorrent pieces (bits bytes) = IsPayload pieces bytes
IsOfTorrent pieces (want bytes) = IsPayload pieces bytes
IsOfTorrent pieces (haves bytes) = IsPayload pieces bytes
IsOfTorrent pieces order = Unit {0}

-- the text is a line, its worker one of so many and its set of pieces one of the torrent
pub record CanBeDone (workers pieces : ℕ) (text : List ℕ) : Type 0 where
  pub line : OrderLine
  pub said : line_in text ≡ Some line
  pub worker : line.worker < workers
  pub bitfield : IsOfTorrent pieces line.order

-- a line that stops no script: it is empty, or can be done
abbrev pub Passes : ℕ → ℕ → List ℕ → Type 0
Passes workers pieces text = (text ≡ []) ⊎ CanBeDone workers pieces text

-- the text is a first line, of so many workers and pieces
pub record Opens (text : List ℕ) (w p : ℕ) : Type 0 where
  pub setup : Setup
  pub said : setup_in text ≡ Some setup
  pub workers : w ≡ setup.workers
  pub pieces : p ≡ piece_count setup.torrent.layout

-- the fault blames the line of this number, and for this reason, or nothing in the script
abbrev pub Blames : Fault → ℕ → Type 0 → Type 0
Blames (faults.Line n) number reason = (n ≡ number) × reason
Blames (faults.Metainfo fault) number reason = ⊥
Blames (faults.Want fault) number reason = ⊥
Blames faults.Random number reason = ⊥
Blames faults.File number reason = ⊥
Blames faults.Memory number reason = Unit {0}
Blames faults.NoThread number reason = ⊥
Blames (faults.Gather fault) number reason = ⊥

-- the lines that end with a line feed, and what is behind the last one
abbrev pub lines_of : List ℕ → List (List ℕ)
lines_of input = slice_split (λ byte. byte == 10) input

-- line k of them, from 0
abbrev pub line_at : List (List ℕ) → ℕ → List ℕ
line_at lines k = slice_index_or lines k []

-- the lines from `from` to `n`, without it, are empty
abbrev pub AreBlank : List (List ℕ) → ℕ → ℕ → Type 0
AreBlank lines from n = (k : ℕ) → from ≤ k → k < n → line_at lines k ≡ []

-- the place of the first line from `from` on that isn't empty, where there is one
abbrev pub IsFirstLine : List (List ℕ) → ℕ → Option ℕ → Type 0
IsFirstLine lines from None = AreBlank lines from (length lines)
IsFirstLine lines from (Some first) = (from ≤ first) × (first < length lines) × AreBlank lines from first × (line_at lines first ≢ [])

-- the first line from `from` on that isn't empty sets these rules, and line n is the one behind it
pub record SetsRules (lines : List (List ℕ)) (pieces from : ℕ) (rules : Rules) (n : ℕ) : Type 0 where
  pub line : ℕ
  pub behind : from ≤ line
  pub within : line < length lines
  pub blank : AreBlank lines from line
  pub said : rules_in pieces (line_at lines line) ≡ Some rules
  pub number : n ≡ line + 1

-- such a line sets the rules, or there is none, and they are the usual ones
abbrev pub MaySetRules : List (List ℕ) → ℕ → ℕ → Rules → ℕ → Type 0
MaySetRules lines pieces from rules n =
    SetsRules lines pieces from rules n
    ⊎ ((rules ≡ usual_rules) × (n ≡ from) × ((other : Rules) (m : ℕ) → ¬ (SetsRules lines pieces from other m)))

-- the lines before line n open the script: empty ones, the first line, and what may set the rules
pub record Starts (lines : List (List ℕ)) (n workers pieces : ℕ) : Type 0 where
  pub first : ℕ
  pub within : first < length lines
  pub blank : AreBlank lines 0 first
  pub opens : Opens (line_at lines first) workers pieces
  pub rules : Rules
  pub may_set : MaySetRules lines pieces (first + 1) rules n

-- each line from `from` on passes, up to line n
abbrev pub PassTo : List (List ℕ) → ℕ → ℕ → ℕ → ℕ → Type 0
PassTo lines from workers pieces n = (k : ℕ) → from ≤ k → k < n → Passes workers pieces (line_at lines k)

-- these are the lines of a script: those from `from` on stand behind the ones that open it
pub record AreScript (lines : List (List ℕ)) : Type 0 where
  pub from : ℕ
  pub workers : ℕ
  pub pieces : ℕ
  pub starts : Starts lines from workers pieces
  pub pass : PassTo lines from workers pieces (length lines)

-- there is no line that isn't empty: that is a fault of line 1
pub record LacksLines (lines : List (List ℕ)) (n : ℕ) : Type 0 where
  pub blank : AreBlank lines 0 (length lines)
  pub number : n ≡ 1

-- the first line that isn't empty opens no script
pub record FailsToStart (lines : List (List ℕ)) (n : ℕ) : Type 0 where
  pub first : ℕ
  pub within : first < length lines
  pub blank : AreBlank lines 0 first
  pub some : line_at lines first ≢ []
  pub bad : setup_in (line_at lines first) ≡ None
  pub number : n ≡ first + 1

-- a line behind those that open the script doesn't pass, the first one that doesn't: the script is open from line `from` on
pub record FailsLater (lines : List (List ℕ)) (n : ℕ) : Type 0 where
  pub from : ℕ
  pub workers : ℕ
  pub pieces : ℕ
  pub starts : Starts lines from workers pieces
  pub line : ℕ
  pub behind : from ≤ line
  pub within : line < length lines
  pub pass : PassTo lines from workers pieces line
  pub bad : ¬ (Passes workers pieces (line_at lines line))
  pub number : n ≡ line + 1

-- why a script ended before it was opened
abbrev pub StopsOpening : List (List ℕ) → Fault → Type 0
StopsOpening lines (faults.Line number) = LacksLines lines number ⊎ FailsToStart lines number
StopsOpening lines (faults.Metainfo fault) = ⊥
StopsOpening lines (faults.Want fault) = ⊥
StopsOpening lines faults.Random = ⊥
StopsOpening lines faults.File = ⊥
StopsOpening lines faults.Memory = Unit {0}
StopsOpening lines faults.NoThread = ⊥
StopsOpening lines (faults.Gather fault) = ⊥

-- these lines are no script, and the line of this number, counted from 1, is the first at fault
abbrev pub FailsAt : List (List ℕ) → ℕ → Type 0
FailsAt lines number = LacksLines lines number ⊎ FailsToStart lines number ⊎ FailsLater lines number

-- the bytes are a script
abbrev pub IsScript : List ℕ → Type 0
IsScript input = AreScript (lines_of input)

-- the bytes are no script: they fail at the line of this number, counted from 1
abbrev pub IsFaultAt : List ℕ → ℕ → Type 0
IsFaultAt input number = FailsAt (lines_of input) number

-- why a script ended before its end
abbrev pub Explains : List ℕ → Fault → Type 0
Explains input (faults.Line number) = IsFaultAt input number
Explains input (faults.Metainfo fault) = ⊥
Explains input (faults.Want fault) = ⊥
Explains input faults.Random = ⊥
Explains input faults.File = Unit {0}
Explains input faults.Memory = Unit {0}
Explains input faults.NoThread = ⊥
Explains input (faults.Gather fault) = ⊥

-- with which fault playing a script may end before anything is printed: that of a line, or want of memory
abbrev pub IsPlayFault : Fault → Type 0
IsPlayFault (faults.Line number) = Unit {0}
IsPlayFault (faults.Metainfo fault) = ⊥
IsPlayFault (faults.Want fault) = ⊥
IsPlayFault faults.Random = ⊥
IsPlayFault faults.File = ⊥
IsPlayFault faults.Memory = Unit {0}
IsPlayFault faults.NoThread = ⊥
IsPlayFault (faults.Gather fault) = ⊥

-- so many lines were answered when the script came to this end
abbrev pub EndsAfter : List ℕ → Result (Unit {0}) Fault → ℕ → Type 0
EndsAfter input (Ok done) count = count ≡ length (lines_of input)
EndsAfter input (Err (faults.Line number)) count = number ≡ count + 1
EndsAfter input (Err fault) count = Unit {0}

-- the text is what is printed of a script that came to this end: of its lines up to there
pub record IsPrintedBy (input : List ℕ) (result : Result (Unit {0}) Fault) (text : List ℕ) : Type 0 where
  pub count : ℕ
  pub ends : EndsAfter input result count
  pub is : IsPrintedOf (take count (lines_of input)) text

-- the first lines of the script, so many of them, were answered, and what was printed is that
pub record PrintsFront (input : List ℕ) (count : ℕ) (old new : Option (List ℕ)) : Type 0 where
  pub text : List ℕ
  pub is : IsPrintedOf (take count (lines_of input)) text
  pub wrote : Appends old new text

-- what was printed by the end of a script, or by the fault of one of its lines; of other faults nothing is said
abbrev pub Prints : List ℕ → Result (Unit {0}) Fault → Option (List ℕ) → Option (List ℕ) → Type 0
Prints input (Ok done) old new = PrintsFront input (length (lines_of input)) old new
Prints input (Err (faults.Line number)) old new = (before : ℕ) × (number ≡ before + 1) × PrintsFront input before old new
Prints input (Err fault) old new = Unit {0}

-- The exit status tells what the bytes are: 0 for a script, and the replies of all its lines were printed; 2 for none, and those of the
-- lines before the first at fault were printed; 4 where the output failed and 5 for want of memory say neither.
pub record IsScriptStatus (input : List ℕ) (status : ℕ) (old new : Option (List ℕ)) : Type 0 where
  pub one_of : (status ≡ 0) ⊎ (status ≡ 2) ⊎ (status ≡ 4) ⊎ (status ≡ 5)
  pub done : status ≡ 0 → IsScript input × PrintsFront input (length (lines_of input)) old new
  pub fault : status ≡ 2 → (before : ℕ) × IsFaultAt input (before + 1) × PrintsFront input before old new
