-- How much room the replies to commands may need.
use Rattle.std.specs.Prelude.{ℕ, ◌+◌, ◌*◌, min, Bool, true, false, if◌then◌else◌, List, sum, sum_by}
use Rattle.sheaf_words.specs.declared.query.Command.{Command}
use Rattle.sheaf_words.specs.declared.query.Command.TheVariants.{Change, Ask}
use Rattle.sheaf_words.specs.declared.query.Query.{Query}
use Rattle.sheaf_words.specs.declared.query.Query.TheVariants.{Betti}
use Rattle.sheaf_words.specs.declared.edit.Set.{Set}
use Rattle.sheaf_words.specs.declared.edit.Set.TheVariants.{Stalk, Restrict}

-- the reply may be large: it is none of Betti numbers
abbrev pub is_large : Query → Bool
is_large Betti = false
is_large query = true

-- how many replies to a command may be large: an edit has none
abbrev pub large_replies : Command → ℕ
large_replies (Change e) = 0
large_replies (Ask query) = if is_large query then 1 else 0

-- how many coordinates a change gives a stalk
abbrev pub set_coordinates : Set → ℕ
set_coordinates (Stalk s n) = n
set_coordinates (Restrict s t entries) = 0

-- and how many all changes of a command
abbrev pub new_coordinates : Command → ℕ
new_coordinates (Change e) = sum_by set_coordinates e.sets
new_coordinates (Ask query) = 0

-- so many coordinates all stalks together may come to have, in any version: those at the start and all new ones, but at
-- most 4,096
abbrev pub most_coordinates : List ℕ → List (List Command) → ℕ
most_coordinates stalks scripts = min (sum stalks + sum_by (sum_by new_coordinates) scripts) 4096

-- the room that all replies may need: for each large one that of a matrix with a row and a column for each coordinate
abbrev pub room : List ℕ → List (List Command) → ℕ
room stalks scripts = sum_by (sum_by large_replies) scripts
    * (most_coordinates stalks scripts * most_coordinates stalks scripts)
