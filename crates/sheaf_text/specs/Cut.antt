-- How a line of an input is cut into words, and which words are numbers.
use Rattle.std.specs.Prelude.{ℕ, List, filter, length, not, ◌==◌, ◌||◌, ◌&&◌, nat_le}
use Rattle.std.specs.Prelude.{unwrap_or, Option, Some, None, if◌then◌else◌}
use Rattle.std.specs.List.{slice_split}
use Rattle.std.specs.Str.{all_ascii_digits}
use Rattle.std.specs.Str.Parse.{digits_value}

-- the words of a line: what has bytes between its spaces and tabs
abbrev pub words : List ℕ → List (List ℕ)
words line = filter (λ w. not (length w == 0)) (slice_split (λ b. (b == 32) || (b == 9)) line)

-- the number that a word is: one to nine decimal digits
abbrev pub word_number : List ℕ → Option ℕ
word_number w =
    if not (length w == 0) && nat_le (length w) 9 && all_ascii_digits w then Some (digits_value 10 w) else None

-- the number that a word is, and 0 where it is none
abbrev pub value_of : List ℕ → ℕ
value_of w = unwrap_or (word_number w) 0
