-- Journals as text.
use Rattle.std.specs.Prelude.{◌≡◌, ℕ, ◌+◌, min, true, false, List, [], ◌∷◌, ◌++◌, codes, length, map}
use Rattle.std.specs.Fmt.{decimal}
use Rattle.hex.specs.Hex.{encode_lower}
use Rattle.bt_meta.specs.WireBits.{IsSpelled}
use Rattle.bt_history.specs.declared.event.Action.{Action}
use Rattle.bt_history.specs.declared.event.Action.TheVariants.{Join, Bits, Have, Choke, Unchoke, Next, Arrived, Settle, Leave, Want, Haves, Depth}
use Rattle.bt_history.specs.declared.event.Action.TheVariants.{Release, Level, Levels, InOrder, Reach, InOrderFrom, Lack, Late, Alone, Lose, Discard, Requested}
use Rattle.bt_history.specs.declared.event.Event.{Event}
use Rattle.bt_text.specs.Texts.{reply_text}

-- the text of a block that arrived: its piece, where it begins and its length
abbrev pub arrived_text : ℕ → ℕ → ℕ → List ℕ
arrived_text piece begin len = codes "block " ++ (decimal piece ++ (codes " " ++ (decimal begin ++ (codes " " ++ decimal len))))

-- the text of what is told of a request: the word, the piece of its block, and where that begins
abbrev pub request_text : List ℕ → ℕ → ℕ → List ℕ
request_text word piece begin = word ++ (decimal piece ++ (codes " " ++ decimal begin))

-- the text of a piece's level
abbrev pub level_text : ℕ → ℕ → List ℕ
level_text piece level = codes "level " ++ (decimal piece ++ (codes " " ++ decimal level))

-- a level as one digit; one beyond 9 is told as 9, which is refused like it
abbrev pub level_digit : ℕ → ℕ
level_digit level = 48 + min level 9

-- the level of each piece, a digit each
abbrev pub level_digits : List ℕ → List ℕ
level_digits levels = map level_digit levels

-- the text of a call of a journal, which has none that frees blocks with no check
abbrev pub IsCallText : Action → List ℕ → Type 0
IsCallText Join text = text ≡ codes "join"
IsCallText (Bits flags) text = (wire : List ℕ) × (IsSpelled flags wire × (text ≡ codes "bits " ++ encode_lower wire))
IsCallText (Have p) text = text ≡ codes "have " ++ decimal p
IsCallText Choke text = text ≡ codes "choke"
IsCallText Unchoke text = text ≡ codes "unchoke"
IsCallText (Next word) text = text ≡ codes "next"
IsCallText (Arrived p begin bytes) text = text ≡ arrived_text p begin (length bytes)
IsCallText (Settle p bytes) text = text ≡ codes "settle " ++ decimal p
IsCallText Leave text = text ≡ codes "leave"
IsCallText (Want flags) text = (wire : List ℕ) × (IsSpelled flags wire × (text ≡ codes "want " ++ encode_lower wire))
IsCallText (Haves flags) text = (wire : List ℕ) × (IsSpelled flags wire × (text ≡ codes "haves " ++ encode_lower wire))
IsCallText (Depth n) text = text ≡ codes "depth " ++ decimal n
IsCallText (Release p begin) text = text ≡ request_text (codes "release ") p begin
IsCallText (Level p n) text = text ≡ level_text p n
IsCallText (Levels levels) text = text ≡ codes "levels " ++ level_digits levels
IsCallText (InOrder true) text = text ≡ codes "inorder yes"
IsCallText (InOrder false) text = text ≡ codes "inorder no"
IsCallText (Reach n) text = text ≡ codes "reach " ++ decimal n
IsCallText (InOrderFrom n) text = text ≡ codes "inorderfrom " ++ decimal n
IsCallText (Lack p) text = text ≡ codes "lack " ++ decimal p
IsCallText (Late p begin) text = text ≡ request_text (codes "late ") p begin
IsCallText (Alone true) text = text ≡ codes "alone yes"
IsCallText (Alone false) text = text ≡ codes "alone no"
IsCallText (Lose p) text = ⊥
IsCallText (Discard p begin) text = ⊥
IsCallText (Requested p begin) text = ⊥

-- the line of an entry: the worker, the call and the reply
pub record IsJournalLine (e : Event) (text : List ℕ) : Type 0 where
  pub call : List ℕ
  pub is_call : IsCallText e.action call
  pub line : text ≡ decimal e.worker ++ (codes " " ++ (call ++ (codes " = " ++ reply_text e.reply)))

-- a line for each of these events, in order
abbrev pub AreJournalLines : List Event → List ℕ → Type 0
AreJournalLines [] text = text ≡ []
AreJournalLines (e ∷ events) text =
    (line : List ℕ) × ((rest : List ℕ) × (IsJournalLine e line × AreJournalLines events rest × (text ≡ (line ++ codes "\n") ++ rest)))
