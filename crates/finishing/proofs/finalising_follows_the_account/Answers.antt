use Rattle.finishing.proofs.FollowsFinalising.{finalising_follows}
use Rattle.finishing.proofs.finalising_follows_the_account.Goals as goal

pub returns : goal.returns
returns g c = finalising_follows g.met.F.Field.keeps
