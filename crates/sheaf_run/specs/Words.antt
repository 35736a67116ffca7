-- The words that name what is wrong with a line, and what there is too much of.
use Rattle.std.specs.Prelude.{ℕ, List, codes}
use Rattle.sheaf_text.specs.declared.fault.LineCause.{LineCause}
use Rattle.sheaf_text.specs.declared.fault.LineCause.TheVariants as causes
use Rattle.sheaf_text.specs.declared.fault.Which.{Which}
use Rattle.sheaf_text.specs.declared.fault.Which.TheVariants as limits

abbrev pub cause_word : LineCause → List ℕ
cause_word causes.End = codes "end"
cause_word causes.After = codes "after"
cause_word causes.Word = codes "word"
cause_word causes.Count = codes "count"
cause_word causes.Number = codes "number"
cause_word causes.Sign = codes "sign"
cause_word causes.Field = codes "field"
cause_word causes.Cell = codes "cell"
cause_word causes.Vertex = codes "vertex"
cause_word causes.Dims = codes "dims"
cause_word causes.Twice = codes "twice"
cause_word causes.Shape = codes "shape"
cause_word causes.Entry = codes "entry"

abbrev pub limit_word : Which → List ℕ
limit_word limits.Bytes = codes "bytes"
limit_word limits.Cells = codes "cells"
limit_word limits.Dimension = codes "dimension"
limit_word limits.Stalk = codes "stalk"
limit_word limits.Total = codes "total"
limit_word limits.Faces = codes "faces"
limit_word limits.Clients = codes "clients"
limit_word limits.Commands = codes "commands"
limit_word limits.Room = codes "room"
