-- What a command line that runs sessions says, and what is wrong with it.
use Rattle.std.specs.Prelude.{◌≡◌, ℕ, List, codes, Option, Some, None}
use Rattle.bt_text.specs.Fields.{bytes_in}
use Rattle.bt_cli.specs.declared.wrong.Wrong.{Wrong}
use Rattle.bt_cli.specs.declared.wrong.Wrong.TheVariants.{Depth, Checkers, Streams, Want, Output, OfSerial, OfRun, Lacking}

-- the bytes that the text of `--want` writes, where it is given: there are some, or it isn't given
abbrev pub IsWanted : Option (List ℕ) → Option (List ℕ) → Type 0
IsWanted None want = want ≡ None
IsWanted (Some text) None = ⊥
IsWanted (Some text) (Some bytes) = bytes_in text ≡ Some bytes

-- the line on standard error
abbrev pub wrong_text : Wrong → List ℕ
wrong_text Depth = codes "error: a depth is 1 to 64\n"
wrong_text Checkers = codes "error: a run takes 1 to 8 checkers\n"
wrong_text Streams = codes "error: a run takes 1 to 64 streams\n"
wrong_text Want = codes "error: the value of --want is not hexadecimal\n"
wrong_text Output = codes "error: the file of --out is META or a STREAM\n"
wrong_text OfSerial = codes "error: --want and --journal are options of `piecepick serial`\n"
wrong_text OfRun = codes "error: --checkers is an option of `piecepick run`\n"
wrong_text Lacking = codes "error: META or a command is lacking\n"
