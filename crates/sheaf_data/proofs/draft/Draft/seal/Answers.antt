use Rattle.std.proofs.Common.{sym}
use Rattle.std.proofs.lemmas.Bool.{true≢false}
use Rattle.sheaf_data.proofs.Drafts.{fault-refutes}
use Rattle.sheaf_data.proofs.draft.Draft.seal.Goals as goal

pub returns-in-Some-clause-sheaf : goal.returns-in-Some-clause-sheaf
returns-in-Some-clause-sheaf g c = (
  λ e. absurd (true≢false (sym e)),
  λ h. absurd (fault-refutes (g.F.Scalars.ops c.args.self.field) c.args.self.complex c.args.self.stalks
      c.args.self.blocks c.in-Some.fault c.in-Some.ensures h),
)
