-- What is written, as the text of lines of words.
use Rattle.std.proofs.Common.{◌≡◌, ℕ, List, [], ◌∷◌, ◌++◌, ap, ◌∙◌, sym, append-nil}
use Rattle.std.specs.List.{join_with_byte}
use Rattle.reply_text.specs.Parts.{spaced_words, lines_text}
use Rattle.reply_text.specs.Lines.{line_text}

-- words joined, as the first and a space before each other
pub join_spaced : (word : List ℕ) (words : List (List ℕ)) → join_with_byte 32 (word ∷ words) ≡ word
    ++ spaced_words words
join_spaced word [] = sym (append-nil word)
join_spaced word (next ∷ words) = ap (λ rest. word ++ 32 ∷ rest) (join_spaced next words)

-- one line
pub one_line : (word : List ℕ) (words : List (List ℕ)) → (word ++ spaced_words words) ++ 10 ∷ []
    ≡ lines_text ((word ∷ words) ∷ [])
one_line word words =
    ap (λ text. text ++ 10 ∷ []) (sym (join_spaced word words)) ∙ sym (append-nil (line_text (word ∷ words)))
