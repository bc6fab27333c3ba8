-- The windows of a list, each by the one before it, and units of a window as a share of it.
use Rattle.std.specs.Prelude.{ℕ, ◌+◌, ◌*◌, ◌/◌, ◌%◌, max, ◌++◌, codes, decimal}
use Rattle.mh_model.specs.Bytes.{Text}

-- the window after one: an eighth longer, rounded down, and 1 longer at least
abbrev pub next_window : ℕ → ℕ
next_window window = window + max 1 (window / 8)

-- units of a window as parts of ten thousand of it, rounded down
abbrev pub share_of : ℕ → ℕ → ℕ
share_of units window = units * 10000 / window

-- such parts in per cent, with two decimals
abbrev pub percent_text : ℕ → Text
percent_text share = decimal (share / 100) ++ codes "." ++ decimal (share / 10 % 10) ++ decimal (share % 10)
