use Rattle.generated_laws.proofs.Whole.{accepted, sizes_are, known_sizes}
use Rattle.generated_laws.proofs.generated_accepted.Goals as goal

pub returns : goal.returns
returns c = record {
  accepted = λ k low high. accepted k low high;
  sizes = λ k low high. sizes_are k low high;
  no_others = λ k words ram depth low high s. known_sizes k low high words ram depth s;
}
