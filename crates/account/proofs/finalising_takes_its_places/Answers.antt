use Rattle.account.proofs.Places.{places_taken, places_refused}
use Rattle.account.proofs.Suffices.{places_suffice}
use Rattle.account.proofs.Stops.{places_lacking}
use Rattle.account.proofs.Leaves.{counts_left}
use Rattle.account.proofs.finalising_takes_its_places.Goals as goal

pub returns : goal.returns
returns g c =
    let m = g.F.Field.model in record { taken = places_taken m; refused = places_refused m; suffice = places_suffice m; lacking = places_lacking m; left = counts_left m }
