-- The report of a run.
use Rattle.std.specs.Prelude.{ℕ, ◌+◌, Bool, true, false, not, ◌||◌, List, [], ◌∷◌, ◌++◌, codes, Result, Ok, Err, if◌then◌else◌}
use Rattle.std.specs.Fmt.{decimal}
use Rattle.bt_history.specs.Counting.{all_below, count_below}
use Rattle.bt_meta.specs.Layout.{piece_count}
use Rattle.bt_history.specs.Pieces.{had, joined_below, wanted}
use Rattle.bt_picker.specs.Positions.{DeskState}
use Rattle.bt_cli.specs.declared.report.Judged.{Judged}
use Rattle.bt_cli.specs.declared.report.Judged.TheVariants.{Sound, Wrong, Unjudged}
use Rattle.bt_peer.specs.declared.fault.End.{End}
use Rattle.bt_peer.specs.declared.fault.SessionFault.{SessionFault}
use Rattle.bt_peer.specs.declared.fault.SessionFault.TheVariants.{Wire, WrongInfohash, Truncated, Refused, ReadFault, WriteFault, NoMemory, BadBits}

-- the numbers by which the ends of sessions are told
abbrev pub session_fault_number : SessionFault → ℕ
session_fault_number (Wire fault) = 1
session_fault_number WrongInfohash = 2
session_fault_number Truncated = 3
session_fault_number (Refused reason) = 4
session_fault_number ReadFault = 5
session_fault_number WriteFault = 6
session_fault_number NoMemory = 7
session_fault_number BadBits = 8

-- a piece behind a space, unless nothing of it is lacking
abbrev pub missing_piece : ℕ → Bool → List ℕ
missing_piece p true = []
missing_piece p false = codes " " ++ decimal p

-- the texts of these, counted from n on, joined
abbrev pub numbered : {A : Type 0} → (ℕ → A → List ℕ) → ℕ → List A → List ℕ
numbered text n [] = []
numbered text n (x ∷ xs) = text n x ++ numbered text (n + 1) xs

-- of this many pieces those that are lacking, or a dash
abbrev pub missing_text : ℕ → (ℕ → Bool) → List ℕ
missing_text pieces done = if all_below pieces done then codes " -" else joined_below pieces (λ p. missing_piece p (done p))

-- how stream i ended
abbrev pub end_text : ℕ → Result End SessionFault → List ℕ
end_text i (Ok end) = codes "stream " ++ (decimal i ++ codes " end\n")
end_text i (Err fault) = codes "stream " ++ (decimal i ++ (codes " fault " ++ (decimal (session_fault_number fault) ++ codes "\n")))

-- whether none is lacking
abbrev pub yes_or_no : Bool → List ℕ
yes_or_no true = codes "yes"
yes_or_no false = codes "no"

-- what the audit says, if it found memory
abbrev pub judged_text : Judged → List ℕ
judged_text Sound = codes "journal ok\n"
judged_text (Wrong place) = codes "journal bad " ++ (decimal place ++ codes "\n")
judged_text Unjudged = []

-- how many pieces there are, and how many are had
abbrev pub counts_text : ℕ → ℕ → List ℕ
counts_text pieces had = codes "pieces " ++ (decimal pieces ++ (codes "\nhad " ++ (decimal had ++ codes "\n")))

-- which pieces are lacking, and whether none is
abbrev pub pieces_text : ℕ → (ℕ → Bool) → List ℕ
pieces_text pieces done =
    codes "missing" ++ (missing_text pieces done ++ (codes "\ncomplete " ++ (yes_or_no (all_below pieces done) ++ codes "\n")))

-- a piece is had, or isn't wanted
abbrev pub is_done : DeskState → ℕ → Bool
is_done desk p = not (wanted desk.setting desk.history p) || had desk.history p

-- how the streams ended, how many pieces are had, which of the wanted ones are lacking, and what the audit says
abbrev pub report_text : List (Result End SessionFault) → DeskState → Judged → List ℕ
report_text ends desk judged =
    let pieces = piece_count desk.setting.torrent in
    numbered end_text 0 ends
    ++ (counts_text pieces (count_below pieces (had desk.history)) ++ (pieces_text pieces (is_done desk) ++ judged_text judged))
