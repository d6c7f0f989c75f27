-- What a line of a script does to the desk.
use Rattle.std.specs.Prelude.{◌≡◌, ◌⊎◌, ◌∷◌, ◌++◌, ℕ, Bool, List, [], codes, length, take, Some}
use Rattle.bt_meta.specs.WireBits.{IsSpelled}
use Rattle.bt_meta.specs.Layout.{piece_count}
use Rattle.bt_history.specs.declared.call.Reply.{Reply}
use Rattle.bt_history.specs.declared.event.Action.{Action}
use Rattle.bt_history.specs.declared.event.Action.TheVariants as actions
use Rattle.bt_history.specs.declared.rules.Rules.{Rules}
use Rattle.bt_history.specs.Setting.{setting_of, usual_rules}
use Rattle.bt_picker.specs.Positions.{DeskState, Gains}
use Rattle.bt_picker.specs.Checks.{SettlesNow}
use Rattle.bt_text.specs.Texts.{reply_text}
use Rattle.bt_text.specs.declared.script.setup.Setup.{Setup}
use Rattle.bt_text.specs.Setups.{setup_in}
use Rattle.bt_text.specs.Lines.{Order, OrderLine, makes, bits, want, haves, settle, line_in}
use Rattle.bt_text.specs.RulesLines.{rules_in}

-- the order is this call of a torrent of so many pieces
abbrev pub IsCall : ℕ → Order → Action → Type 0
IsCall pieces (makes call) action = action ≡ call
IsCall pieces (bits bytes) action = (flags : List Bool) × (action ≡ actions.Bits flags) × (length flags ≡ pieces) × IsSpelled flags bytes
IsCall pieces (want bytes) action = (flags : List Bool) × (action ≡ actions.Want flags) × (length flags ≡ pieces) × IsSpelled flags bytes
IsCall pieces (haves bytes) action = (flags : List Bool) × (action ≡ actions.Haves flags) × (length flags ≡ pieces) × IsSpelled flags bytes
IsCall pieces (settle p) action = ⊥

-- the desk made the call and gained its entry
pub record MakesCall (old new : DeskState) (worker : ℕ) (order : Order) (reply : Reply) : Type 0 where
  pub action : Action
  pub call : IsCall (piece_count old.setting.torrent) order action
  pub gains : Gains old new (record { worker = worker; action = action; reply = reply })

-- what the order does
abbrev pub PlaysOrder : DeskState → DeskState → ℕ → Order → Reply → Type 0
PlaysOrder old new worker (settle p) reply = SettlesNow old new worker p reply
PlaysOrder old new worker order reply = MakesCall old new worker order reply

-- what the line does
pub record PlaysLine (old new : DeskState) (text : List ℕ) (reply : Reply) : Type 0 where
  pub line : OrderLine
  pub said : line_in text ≡ Some line
  pub plays : PlaysOrder old new line.worker line.order reply

-- what the line does, and the text that is printed of it: an empty line does nothing, and else the reply is a line of its own
abbrev pub AnswersLine : DeskState → DeskState → List ℕ → List ℕ → Type 0
AnswersLine old new line text =
    ((line ≡ []) × (new ≡ old) × (text ≡ []))
    ⊎ ((reply : Reply) × (PlaysLine old new line reply × (text ≡ reply_text reply ++ codes "\n")))

-- the desk of this setup by these rules, where nothing was called yet
pub record IsDesk (setup : Setup) (rules : Rules) (desk : DeskState) : Type 0 where
  pub setting : desk.setting ≡ setting_of setup.torrent.layout setup.workers rules
  pub history : desk.history ≡ []

-- a first line opens this desk, by the usual rules
pub record OpensDesk (line : List ℕ) (desk : DeskState) : Type 0 where
  pub setup : Setup
  pub said : setup_in line ≡ Some setup
  pub is : IsDesk setup usual_rules desk

-- a line sets the rules of this desk
pub record SetsDesk (setup : Setup) (line : List ℕ) (desk : DeskState) : Type 0 where
  pub rules : Rules
  pub said : rules_in (piece_count setup.torrent.layout) line ≡ Some rules
  pub is : IsDesk setup rules desk

-- how far a script has come: nothing was said; its first line was, and the rules are to be set; it has a desk
pub data Stage : Type 0 where
  silent : Stage
  opened : Setup → Stage
  playing : DeskState → Stage

-- What a line does by how far the script has come, and the text that is printed of it. Empty lines do nothing; the first other line opens
-- the desk by the usual rules, unless the next one sets them; each line behind is answered there, and none of these sets rules.
abbrev pub TakesLine : Stage → Stage → List ℕ → List ℕ → Type 0
TakesLine silent silent line text = (line ≡ []) × (text ≡ [])
TakesLine silent (opened setup) line text = (setup_in line ≡ Some setup) × (text ≡ [])
TakesLine silent (playing new) line text = OpensDesk line new × (text ≡ [])
TakesLine (opened setup) silent line text = ⊥
TakesLine (opened setup) (opened same) line text = (same ≡ setup) × (line ≡ []) × (text ≡ [])
TakesLine (opened setup) (playing new) line text = SetsDesk setup line new × (text ≡ [])
TakesLine (playing old) silent line text = ⊥
TakesLine (playing old) (opened setup) line text = ⊥
TakesLine (playing old) (playing new) line text = AnswersLine old new line text

-- what these lines do, one after the other, and the text that is printed of them
abbrev pub TakesLines : Stage → Stage → List (List ℕ) → List ℕ → Type 0
TakesLines old new [] text = (new ≡ old) × (text ≡ [])
TakesLines old new (line ∷ lines) text =
    (next : Stage) × (said : List ℕ) × (rest : List ℕ)
    × (TakesLine old next line said × TakesLines next new lines rest × (text ≡ said ++ rest))

-- the lines before line n open this desk, and nothing is printed of them
abbrev pub TakesFront : List (List ℕ) → ℕ → DeskState → Type 0
TakesFront lines n desk = TakesLines silent (playing desk) (take n lines) []

-- the text is what is printed of these lines, from the first line of a script on
pub record IsPrintedOf (lines : List (List ℕ)) (text : List ℕ) : Type 0 where
  pub stage : Stage
  pub takes : TakesLines silent stage lines text
