-- The lines that answer a command.
use Rattle.std.specs.Prelude.{ℕ, List, [], ◌∷◌, ◌++◌, map, length, codes}
use Rattle.std.specs.Fmt.{decimal}
use Rattle.sheaf_words.specs.declared.query.Command.{Command}
use Rattle.sheaf_words.specs.declared.query.Command.TheVariants.{Change, Ask}
use Rattle.sheaf_words.specs.declared.query.Query.TheVariants as queries
use Rattle.sheaf_words.specs.declared.edit.Cause.{Cause}
use Rattle.sheaf_words.specs.declared.edit.Cause.TheVariants.{NoCell, NoFace, StalkLimit, Shape, Entry, TotalLimit}
use Rattle.sheaf_words.specs.declared.edit.Cause.TheVariants.{Square}
use Rattle.sheaf_words.specs.declared.edit.Verdict.TheVariants.{Accepted, Refused}
use Rattle.sheaf_words.specs.declared.event.Event.{Event}
use Rattle.sheaf_words.specs.declared.event.Event.TheVariants as events
use Rattle.sheaf_words.specs.declared.reply.Reply.{Reply}
use Rattle.sheaf_words.specs.declared.reply.Reply.TheVariants as replies
use Rattle.reply_text.specs.Reductions.{reduced_counts, map_counts, reduced_lines, map_lines}

-- the first word of a command
abbrev pub command_word : Command → List ℕ
command_word (Change edit) = codes "edit"
command_word (Ask queries.Betti) = codes "betti"
command_word (Ask queries.Reduce) = codes "reduce"
command_word (Ask queries.Equiv) = codes "equiv"
command_word (Ask (queries.Basis k)) = codes "basis"
command_word (Ask (queries.Class k z)) = codes "class"
command_word (Ask queries.Sections) = codes "sections"
command_word (Ask (queries.Extend s v)) = codes "extend"

-- why an edit is refused
abbrev pub cause_words : Cause → List (List ℕ)
cause_words (NoCell i) = codes "cell" ∷ decimal i ∷ []
cause_words (NoFace i) = codes "face" ∷ decimal i ∷ []
cause_words (StalkLimit i) = codes "stalk" ∷ decimal i ∷ []
cause_words (Shape i) = codes "shape" ∷ decimal i ∷ []
cause_words (Entry i) = codes "entry" ∷ decimal i ∷ []
cause_words TotalLimit = codes "total" ∷ []
cause_words (Square s u) = codes "square" ∷ decimal s ∷ decimal u ∷ []

-- the degree or the vertex that a command asks about; 0 where it asks about neither
abbrev pub subject_of : Command → ℕ
subject_of (Ask (queries.Basis k)) = k
subject_of (Ask (queries.Class k z)) = k
subject_of (Ask (queries.Extend s v)) = s
subject_of command = 0

-- what the first line says of a reply, after the word of the command
abbrev pub reply_words : Command → Reply → List (List ℕ)
reply_words command (replies.Betti numbers) = map decimal numbers
reply_words command (replies.Reduce r) = map decimal (reduced_counts r)
reply_words command (replies.Equiv r m) = map decimal (reduced_counts r ++ map_counts r m)
reply_words command (replies.Basis k vectors) = decimal k ∷ decimal (length vectors) ∷ []
reply_words command (replies.NotCocycle k t) = decimal k ∷ codes "open" ∷ decimal t ∷ []
reply_words command (replies.Class k coords vectors primitive) =
    decimal k ∷ codes "closed" ∷ decimal (length coords) ∷ map decimal coords
reply_words command (replies.Sections vectors) = decimal (length vectors) ∷ []
reply_words command (replies.Section s z) = decimal s ∷ codes "section" ∷ []
reply_words command (replies.NoSection s functional) = decimal s ∷ codes "none" ∷ []
reply_words command replies.BadLength = decimal (subject_of command) ∷ codes "refused" ∷ codes "length" ∷ []
reply_words command replies.BadEntry = decimal (subject_of command) ∷ codes "refused" ∷ codes "entry" ∷ []

-- what the first line says after the word of the command
abbrev pub answer_words : Command → Event → List (List ℕ)
answer_words command (events.Edit c Accepted) = codes "accepted" ∷ []
answer_words command (events.Edit c (Refused cause)) = codes "refused" ∷ cause_words cause
answer_words command (events.Reply c r) = reply_words command r
answer_words command event = []

-- the line of a word and these entries
abbrev pub row_line : List ℕ → List ℕ → List (List ℕ)
row_line word entries = word ∷ map decimal entries

-- a line for each vector of a basis
abbrev pub vector_lines : List (List ℕ) → List (List (List ℕ))
vector_lines vectors = map (λ v. row_line (codes "vector") v) vectors

-- those, and a line for a primitive
abbrev pub class_lines : List (List ℕ) → List ℕ → List (List (List ℕ))
class_lines vectors primitive = vector_lines vectors ++ row_line (codes "primitive") primitive ∷ []

-- the lines of a reply after the first
abbrev pub lines_of : Reply → List (List (List ℕ))
lines_of (replies.Reduce r) = reduced_lines r
lines_of (replies.Equiv r m) = reduced_lines r ++ map_lines r m
lines_of (replies.Basis k vectors) = vector_lines vectors
lines_of (replies.Class k coords vectors primitive) = class_lines vectors primitive
lines_of (replies.Sections vectors) = vector_lines vectors
lines_of (replies.Section s z) = row_line (codes "vector") z ∷ []
lines_of (replies.NoSection s functional) = row_line (codes "functional") functional ∷ []
lines_of r = []

-- the lines after the first
abbrev pub further_lines : Event → List (List (List ℕ))
further_lines (events.Reply c r) = lines_of r
further_lines event = []

-- the first line
abbrev pub first_line : ℕ → ℕ → Command → Event → List (List ℕ)
first_line number v command event =
    decimal number ∷ (codes "v" ++ decimal v) ∷ command_word command ∷ answer_words command event

-- the lines that answer the command of this number on version v
abbrev pub reply_lines : ℕ → ℕ → Command → Event → List (List (List ℕ))
reply_lines number v command event = first_line number v command event ∷ further_lines event
