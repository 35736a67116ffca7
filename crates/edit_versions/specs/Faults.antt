-- The answers of a call that edits, and the verdict.
use Rattle.std.specs.Prelude.{◌≡◌, Result, Ok, Err}
use Rattle.sheaf_words.specs.declared.edit.Verdict.{Verdict}
use Rattle.sheaf_words.specs.declared.edit.Verdict.TheVariants.{Accepted, Refused}
use Rattle.edit_versions.specs.declared.fault.EditFault.{EditFault}
use Rattle.edit_versions.specs.declared.fault.EditFault.TheVariants.{Refused as refused, NoMemory}

-- the answer, where memory did not run out, is that of the verdict
abbrev pub Tells : Result (Unit {0}) EditFault → Verdict → Type 0
Tells (Ok _) v = v ≡ Accepted
Tells (Err (refused cause)) v = v ≡ Refused cause
Tells (Err NoMemory) v = Unit {0}
