use Rattle.program_laws.proofs.Sized.{objects_few, starts_fit}
use Rattle.program_laws.proofs.object_counts.objects_are_few.Goals as goal

pub returns-clause-few : goal.returns-clause-few
returns-clause-few c = objects_few

pub returns-clause-start : goal.returns-clause-start
returns-clause-start c = starts_fit
