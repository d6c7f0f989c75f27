-- The lines of a script behind the first.
use Rattle.std.specs.Prelude.{ℕ, Bool, List, [], ◌∷◌, Option, Some, None, option_map, codes, if◌then◌else◌}
use Rattle.std.specs.Str.{bytes_eq}
use Rattle.bt_history.specs.Entries.{action_of}
use Rattle.bt_history.specs.declared.event.Action.{Action}
use Rattle.bt_history.specs.declared.event.Action.TheVariants.{Join, Choke, Unchoke, Leave, Have, Next, Depth, Levels, InOrder, Reach, InOrderFrom, Lack, Alone}
use Rattle.bt_history.specs.declared.event.Action.TheVariants.{Release, Late, Level, Arrived}
use Rattle.bt_text.specs.declared.script.line.Command.{Command}
use Rattle.bt_text.specs.declared.script.line.Command.TheVariants as commands
use Rattle.bt_text.specs.declared.script.line.Line.{Line}
use Rattle.bt_text.specs.Fields.{fields_of, number_in, small_number_in, byte_in, yes_or_no_in, bytes_in, digits_in}

-- what a worker does, by plain values: a call that the line says whole, one with the payload of a bitfield, or the check of a piece
pub data Order : Type 0 where
  makes : Action → Order
  bits want haves : List ℕ → Order
  settle : ℕ → Order

-- who does what
pub record OrderLine : Type 0 where
  pub worker : ℕ
  pub order : Order

-- a command that was read, as an order
abbrev pub seen_command : Command → Order
seen_command (commands.Make call) = makes (action_of call)
seen_command (commands.Bits bytes) = bits bytes.items
seen_command (commands.Want bytes) = want bytes.items
seen_command (commands.Haves bytes) = haves bytes.items
seen_command (commands.Settle piece) = settle piece

-- a line that was read, as an order of a worker
abbrev pub seen_line : Line → OrderLine
seen_line line = record { worker = line.worker; order = seen_command line.command }

-- a word alone
abbrev pub bare_command : List ℕ → Option Order
bare_command word =
    if bytes_eq word (codes "join") then Some (makes Join)
    else (if bytes_eq word (codes "choke") then Some (makes Choke)
    else (if bytes_eq word (codes "unchoke") then Some (makes Unchoke)
    else (if bytes_eq word (codes "leave") then Some (makes Leave)
    else None)))

-- a word and one argument
abbrev pub short_command : List ℕ → List ℕ → Option Order
short_command word argument =
    if bytes_eq word (codes "bits") then option_map bits (bytes_in argument)
    else (if bytes_eq word (codes "have") then option_map (λ piece. makes (Have piece)) (small_number_in argument)
    else (if bytes_eq word (codes "next") then option_map (λ word. makes (Next word)) (number_in argument)
    else (if bytes_eq word (codes "settle") then option_map settle (small_number_in argument)
    else (if bytes_eq word (codes "want") then option_map want (bytes_in argument)
    else (if bytes_eq word (codes "haves") then option_map haves (bytes_in argument)
    else (if bytes_eq word (codes "depth") then option_map (λ n. makes (Depth n)) (small_number_in argument)
    else (if bytes_eq word (codes "levels") then option_map (λ levels. makes (Levels levels)) (digits_in argument)
    else (if bytes_eq word (codes "inorder") then option_map (λ rising. makes (InOrder rising)) (yes_or_no_in argument)
    else (if bytes_eq word (codes "reach") then option_map (λ n. makes (Reach n)) (byte_in argument)
    else (if bytes_eq word (codes "inorderfrom") then option_map (λ n. makes (InOrderFrom n)) (byte_in argument)
    else (if bytes_eq word (codes "lack") then option_map (λ piece. makes (Lack piece)) (small_number_in argument)
    else (if bytes_eq word (codes "alone") then option_map (λ alone. makes (Alone alone)) (yes_or_no_in argument)
    else None))))))))))))

-- what is given up: the piece, and where the block begins in it
abbrev pub release_of : Option ℕ → Option ℕ → Option Order
release_of (Some piece) (Some begin) = Some (makes (Release piece begin))
release_of piece begin = None

-- what takes too long: the piece, and where the block begins in it
abbrev pub late_of : Option ℕ → Option ℕ → Option Order
late_of (Some piece) (Some begin) = Some (makes (Late piece begin))
late_of piece begin = None

-- the level of a piece
abbrev pub level_of : Option ℕ → Option ℕ → Option Order
level_of (Some piece) (Some n) = Some (makes (Level piece n))
level_of piece n = None

-- a word and two arguments
abbrev pub pair_command : List ℕ → List ℕ → List ℕ → Option Order
pair_command word piece second =
    if bytes_eq word (codes "release") then release_of (small_number_in piece) (small_number_in second)
    else (if bytes_eq word (codes "late") then late_of (small_number_in piece) (small_number_in second)
    else (if bytes_eq word (codes "level") then level_of (small_number_in piece) (byte_in second)
    else None))

-- a block: its piece, where it begins in it, and its bytes
abbrev pub block_of : Option ℕ → Option ℕ → Option (List ℕ) → Option Order
block_of (Some piece) (Some begin) (Some bytes) = Some (makes (Arrived piece begin bytes))
block_of piece begin bytes = None

-- a word and three arguments
abbrev pub block_command : List ℕ → List ℕ → List ℕ → List ℕ → Option Order
block_command word piece begin hex =
    if bytes_eq word (codes "block") then block_of (small_number_in piece) (small_number_in begin) (bytes_in hex) else None

-- a word with its arguments
abbrev pub command_in : List ℕ → List (List ℕ) → Option Order
command_in word [] = bare_command word
command_in word (argument ∷ []) = short_command word argument
command_in word (piece ∷ second ∷ []) = pair_command word piece second
command_in word (piece ∷ begin ∷ hex ∷ []) = block_command word piece begin hex
command_in word arguments = None

-- worker and order together, if both can be read
abbrev pub ordered : Option ℕ → Option Order → Option OrderLine
ordered (Some worker) (Some order) = Some (record { worker = worker; order = order })
ordered worker order = None

-- the line that these fields say
abbrev pub line_of_fields : List (List ℕ) → Option OrderLine
line_of_fields [] = None
line_of_fields (worker ∷ []) = None
line_of_fields (worker ∷ word ∷ arguments) = ordered (small_number_in worker) (command_in word arguments)

-- the line that this text is, if it has the form of one
abbrev pub line_in : List ℕ → Option OrderLine
line_in text = line_of_fields (fields_of text)
