use Rattle.finds.proofs.Laws.{turned_fits}
use Rattle.finds.proofs.turned_fits.Goals as goal

pub returns : goal.returns
returns c = turned_fits
