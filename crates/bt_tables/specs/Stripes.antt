-- Rows of bytes that stand side by side. No public clause of the picker cites this module.
use Rattle.std.specs.Prelude.{ℕ, ◌+◌, ◌*◌, List, [], slice_index_or}
use Rattle.bt_history.specs.Counting.{table}

-- the rows that the bytes hold, so many, of so many bytes each: the bytes of one place of all rows stand beside one another
abbrev pub striped : ℕ → ℕ → List ℕ → List (List ℕ)
striped rows width bytes = table rows (λ row. table width (λ place. slice_index_or bytes (rows * place + row) 0))

-- a row of the list, or an empty one
abbrev pub stripe : List (List ℕ) → ℕ → List ℕ
stripe rows row = slice_index_or rows row []
