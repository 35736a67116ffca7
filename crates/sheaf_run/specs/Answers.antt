-- What the words and the bytes of the input are answered.
use Rattle.std.specs.Prelude.{◌≡◌, ◌⊎◌, ℕ, List, [], ◌∷◌, Option, Some, None, length, map, sum_by, codes, decimal}
use Rattle.std.specs.Prelude.{if◌then◌else◌}
use Rattle.std.specs.Str.{bytes_eq}
use Rattle.field_table.specs.declared.field.Field.{Field}
use Rattle.field_table.specs.Table.{ops_of}
use Rattle.incidence_check.specs.declared.incidence.Incidence.TheVariants.{EdgeEnds, Middles, Signs}
use Rattle.incidence_check.specs.Incidences.{HasRegularIncidences}
use Rattle.square_check.specs.Squares.{Commutes}
use Rattle.sheaf_data.specs.declared.fault.SealFault.{SealFault}
use Rattle.sheaf_data.specs.declared.fault.SealFault.TheVariants.{Complex, Noncommuting}
use Rattle.sheaf_data.specs.Sheaves.{SheafData, IsSheaf}
use Rattle.sheaf_data.specs.Refusals.{IsFault}
use Rattle.sheaf_words.specs.declared.query.Command.{Command}
use Rattle.sheaf_words.specs.declared.event.Event.{Event}
use Rattle.reply_text.specs.Lines.{line_text}
use Rattle.reply_text.specs.Transcripts.{transcript}
use Rattle.core_machine.specs.Machine.{IsLegalAndWhole}
use Rattle.core_machine.specs.Solo.{IsSoloOrder}
use Rattle.sheaf_text.specs.Readings.{Reading, input_value, reading}
use Rattle.sheaf_text.specs.Readings as readings
use Rattle.sheaf_text.specs.declared.fault.Refusal.{Refusal}
use Rattle.sheaf_text.specs.declared.fault.Refusal.TheVariants.{Bad, Over}
use Rattle.sheaf_text.specs.declared.input.Input.{Input}
use Rattle.sheaf_run.specs.Words.{cause_word, limit_word}
use Rattle.sheaf_run.specs.declared.job.Job.{Job}
use Rattle.sheaf_run.specs.declared.job.Job.TheVariants.{Solve, Check}
use Rattle.sheaf_run.specs.declared.status.Status.{Status}
use Rattle.sheaf_run.specs.declared.status.Status.TheVariants.{Done, ReadFault, WriteFault, NoMemory, BadWords, BadLine}
use Rattle.sheaf_run.specs.declared.status.Status.TheVariants.{BadComplex, BadSheaf, Limit}

-- a status, and the text that is written with it
pub record Outcome : Type 0 where
  pub status : Status
  pub text : List ℕ

-- neither a fault nor want of memory
abbrev pub IsAnswer : Status → Type 0
IsAnswer ReadFault = ⊥
IsAnswer WriteFault = ⊥
IsAnswer NoMemory = ⊥
IsAnswer _ = Unit {0}

-- the job that the words ask for: one word, and nothing else
abbrev pub job_of : List (List ℕ) → Option Job
job_of (word ∷ []) =
    if bytes_eq word (codes "solve") then Some Solve
    else if bytes_eq word (codes "check") then Some Check
    else None
job_of words = None

abbrev pub bad_words : Outcome
bad_words = record { status = BadWords; text = codes "bad words\n" }

-- the number of a line that is refused, with the cause or the limit that it passes
abbrev pub bad_line : ℕ → Refusal → Outcome
bad_line line (Bad cause) =
    record { status = BadLine; text = line_text (codes "bad line" ∷ decimal line ∷ cause_word cause ∷ []) }
bad_line line (Over which) =
    record { status = Limit; text = line_text (codes "limit" ∷ limit_word which ∷ decimal line ∷ []) }

-- what is wrong with a draft that is no sheaf
abbrev pub bad_draft : SealFault → Outcome
bad_draft (Complex (EdgeEnds t)) =
    record { status = BadComplex; text = line_text (codes "bad complex edge" ∷ decimal t ∷ []) }
bad_draft (Complex (Middles s u count)) =
    record { status = BadComplex; text = line_text (codes "bad complex middles" ∷ map decimal (s ∷ u ∷ count ∷ [])) }
bad_draft (Complex (Signs s u)) =
    record { status = BadComplex; text = line_text (codes "bad complex signs" ∷ map decimal (s ∷ u ∷ [])) }
bad_draft (Noncommuting s u) =
    record { status = BadSheaf; text = line_text (codes "bad sheaf square" ∷ map decimal (s ∷ u ∷ [])) }

-- what is written of a sheaf and the scripts of its clients: under `solve` the transcript of one legal order of all
-- commands, whole, and of the solo order, so that the text is the only one; under `check` how many cells and faces
-- there are, how many clients, and how many commands
abbrev pub IsTextOf : Job → SheafData Field → List (List Command) → List ℕ → Type 0
IsTextOf Solve d scripts text =
    (events : List Event) × IsLegalAndWhole (ops_of d.field) scripts d events
    × IsSoloOrder (ops_of d.field) scripts d events × (text ≡ transcript scripts events)
IsTextOf Check d scripts text =
    text ≡ line_text (codes "good" ∷ map decimal (length d.complex.dims ∷ length d.complex.faces ∷ length scripts
    ∷ sum_by length scripts ∷ []))

-- a draft that is no sheaf is refused with its first fault; a sheaf is answered with such a text
abbrev pub AnswersDraft : Job → SheafData Field → List (List Command) → Outcome → Type 0
AnswersDraft job d scripts a =
    ((fault : SealFault) × IsFault (ops_of d.field) d.complex d.blocks fault × (a ≡ bad_draft fault))
    ⊎ (IsSheaf (ops_of d.field) d.complex d.stalks d.blocks × (a.status ≡ Done) × IsTextOf job d scripts a.text)

-- a good reading is answered by its draft, and a line that is refused by what is said of it
abbrev pub AnswersReading : Job → Reading → Outcome → Type 0
AnswersReading job (readings.Good v) a =
    (i : Input) × (v ≡ input_value i) × AnswersDraft job i.draft i.scripts a
AnswersReading job (readings.RefusedLine line refusal) a = a ≡ bad_line line refusal

-- refused words are answered so whatever the bytes are
abbrev pub AnswersJob : Option Job → List ℕ → Outcome → Type 0
AnswersJob None bytes a = a ≡ bad_words
AnswersJob (Some job) bytes a = AnswersReading job (reading bytes) a

-- the status that a draft is due: a sheaf; incidences not regular; or regular ones, and a square does not commute
abbrev pub DraftIsDue : SheafData Field → Status → Type 0
DraftIsDue d Done = IsSheaf (ops_of d.field) d.complex d.stalks d.blocks
DraftIsDue d BadComplex = ¬ HasRegularIncidences d.complex
DraftIsDue d BadSheaf = HasRegularIncidences d.complex
    × ((s : ℕ) × (u : ℕ) × (¬ Commutes (ops_of d.field) d.complex d.blocks s u))
DraftIsDue d _ = ⊥

-- under each job the same for now: the status that the input is due, or the one that says why a line is refused
abbrev pub IsDue : Job → Reading → Status → Type 0
IsDue job (readings.Good v) status = (i : Input) × (v ≡ input_value i) × DraftIsDue i.draft status
IsDue job (readings.RefusedLine line refusal) status = status ≡ (bad_line line refusal).status
