use Rattle.headline_trace.proofs.Bounded.{blocks_stated}
use Rattle.headline_trace.proofs.FewCopies.{copies_few}
use Rattle.headline_trace.proofs.Fitting.{blocks_fit}
use Rattle.headline_trace.proofs.Ranked.{blocks_in_order}
use Rattle.headline_trace.proofs.Standing.{translations_fit, translations_stated}
use Rattle.headline_trace.proofs.image_links.blocks_have_room.Goals as goal

pub returns-clause-stated : goal.returns-clause-stated
returns-clause-stated c = blocks_stated

pub returns-clause-all_stated : goal.returns-clause-all_stated
returns-clause-all_stated c = translations_stated

pub returns-clause-fit : goal.returns-clause-fit
returns-clause-fit c = blocks_fit

pub returns-clause-in_order : goal.returns-clause-in_order
returns-clause-in_order c = blocks_in_order

pub returns-clause-all_fit : goal.returns-clause-all_fit
returns-clause-all_fit c = translations_fit

pub returns-clause-few : goal.returns-clause-few
returns-clause-few c = copies_few
