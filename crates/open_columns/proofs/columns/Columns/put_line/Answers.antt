use Rattle.std.proofs.Common.{ap, ◌∙◌, sym, cond, ◌&&◌, refl}
use Rattle.std.proofs.lemmas.Bool.{eq-eqb, ne_eqb}
use Rattle.rising_lists.specs.Rising.{has, entry, entry_of, line_of}
use Rattle.open_columns.specs.Open.{is_open}
use Rattle.open_columns.proofs.OpenLaws.{first-replaced, first_from-same}
use Rattle.open_columns.proofs.columns.Columns.put_line.Goals as goal

pub invariant_of-self : goal.invariant_of-self
invariant_of-self c =
    let marks = c.self.inside.marks in
    let marks' = c.put_line.new.self in
    let x = c.args.x in
    let column = c.args.column in
    first-replaced marks marks' c.self.inside.firsts c.put.new.self x c.first_from-first.result c.self.invariant
    c.put_line.ensures.cells
    (λ k n t. ap (λ l. entry l t) (c.put_line.ensures.lines k
    ∙ ap (λ b. cond (b && has x marks.cells) column (line_of marks k)) (ne_eqb k x n)))
    c.put.ensures
    (λ h. first_from-same (λ t. is_open (entry column t)) (λ t. is_open (entry_of marks' x t)) 0
    c.first_from-first.result
    (λ t. ap (λ l. is_open (entry l t))
    (sym (c.put_line.ensures.lines x ∙ ap (λ b. cond (b && has x marks.cells) column (line_of marks x))
    (eq-eqb x x refl) ∙ ap (λ b. cond b column (line_of marks x)) h)))
    c.first_from-first.ensures)
