use Rattle.account.proofs.Runs.{written_counted}
use Rattle.account.proofs.written_counts_are_the_accounts.Goals as goal

pub returns : goal.returns
returns g c = written_counted g.met.F.Field.keeps
