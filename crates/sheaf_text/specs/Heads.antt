-- What is kept of the words of a line, which are cut once.
use Rattle.std.specs.Prelude.{◌≡◌, ◌≤◌, ◌<◌, ◌+◌, ℕ, Bool, List, drop, length, Option, nat_lt}
use Rattle.std.specs.List.{list_all}
use Rattle.sheaf_text.specs.Cut.{words, word_number}
use Rattle.sheaf_text.specs.Lines.{word}
use Rattle.sheaf_text.specs.Forms.{is_number, are_below}

-- the first of some words, those after it, and how many were cut
pub record IsHead (ws : List (List ℕ)) (first : List ℕ) (rest : List (List ℕ)) (count : ℕ) : Type 0 where
  pub first_is : first ≡ word ws 0
  pub rest_is : rest ≡ drop 1 ws
  pub counted : length ws ≡ count + length rest
  pub few : count ≤ 1

-- how many words a text has, whether they are numbers, and the largest number
pub record AreCounted (text : List ℕ) (count : ℕ) (are_numbers : Bool) (highest : ℕ) : Type 0 where
  pub count_is : count ≡ length (words text)
  pub small : count ≤ length text
  pub numbers_are : are_numbers ≡ list_all is_number (words text)
  pub highest_is : (order : ℕ) → 0 < order → nat_lt highest order ≡ are_below order (words text)

-- the words after the first of a line: two numbers, a sign, entries, and how many words the line has
pub record AreCut (ws : List (List ℕ)) (s t : Option ℕ) (sign : List ℕ) (entries : List (List ℕ)) (count : ℕ)
    : Type 0 where
  pub s_is : s ≡ word_number (word ws 0)
  pub t_is : t ≡ word_number (word ws 1)
  pub sign_is : sign ≡ word ws 2
  pub entries_are : entries ≡ drop 3 ws
  pub count_is : count ≡ length ws + 1
