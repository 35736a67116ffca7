use Rattle.std.proofs.Common.{ap, ◌∙◌, sym, cond, refl}
use Rattle.std.proofs.lemmas.Bool.{eq-eqb, ne_eqb}
use Rattle.rising_lists.specs.Rising.{entry, entry_of, line_of}
use Rattle.open_columns.specs.Open.{is_open}
use Rattle.open_columns.proofs.OpenLaws.{first-replaced, first_from-same}
use Rattle.open_columns.proofs.columns.Columns.replace_line.Goals as goal

pub invariant_of-self : goal.invariant_of-self
invariant_of-self c =
    let marks = c.self.inside.marks in
    let marks' = c.replace_line-old.new.self in
    let x = c.args.x in
    let column = c.args.column in
    first-replaced marks marks' c.self.inside.firsts c.put.new.self x c.first_from-open.result c.self.invariant
    c.replace_line-old.ensures.cells
    (λ k n t. ap (λ l. entry l t) (c.replace_line-old.ensures.lines k
    ∙ ap (λ b. cond b column (line_of marks k)) (ne_eqb k x n)))
    c.put.ensures
    (λ h. first_from-same (λ t. is_open (entry column t)) (λ t. is_open (entry_of marks' x t)) 0
    c.first_from-open.result
    (λ t. ap (λ l. is_open (entry l t))
    (sym (c.replace_line-old.ensures.lines x ∙ ap (λ b. cond b column (line_of marks x)) (eq-eqb x x refl))))
    c.first_from-open.ensures)
