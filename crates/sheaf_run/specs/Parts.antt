-- Parts of lines, as they are written.
use Rattle.std.specs.Prelude.{ℕ, List, ◌++◌, codes, decimal}
use Rattle.std.specs.List.{flat_map}

-- numbers, with a space before each
abbrev pub spaced_numbers : List ℕ → List ℕ
spaced_numbers numbers = flat_map (λ number. codes " " ++ decimal number) numbers

-- words, then numbers, and then the rest
abbrev pub text_of_parts : List ℕ → List ℕ → List ℕ → List ℕ
text_of_parts words numbers rest = (words ++ spaced_numbers numbers) ++ rest
