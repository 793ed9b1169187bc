-- What is made of code goes on by the same transfers.
use Rattle.std.proofs.Common.{◌≡◌, List, [], ◌∷◌, refl}
use Rattle.narrow_code.specs.InStep.{transfer_in, transfer_of}
use Rattle.narrow_code.specs.Plans as plans
use Rattle.narrow_code.specs.Plans.{Plan, given, made}
use Rattle.narrow_code.proofs.Relation.{Job, ToDo, ToPut, ToPutBit, ToPutBack, ToJoin, ToLoad, ToStore, ToRead, ToEnd, ones, others}

plan_transfer : (t : Plan) → transfer_in (made t) ≡ transfer_in (given t)
plan_transfer (plans.Stays t) = refl
plan_transfer (plans.Narrowed op ty to a b) = refl
plan_transfer (plans.Several ts) = refl
plan_transfer (plans.Choice test size plans.Whole first second) = refl
plan_transfer (plans.Choice test size plans.Low first second) = refl
plan_transfer (plans.Choice test size plans.Turned first second) = refl
plan_transfer (plans.Repeat front behind body) = refl

pub transfers_same : (js : List Job) → transfer_of (others js) ≡ transfer_of (ones js)
transfers_same [] = refl
transfers_same (ToDo before with t ∷ js) = plan_transfer t
transfers_same (ToPut to held ∷ js) = refl
transfers_same (ToPutBit to value ∷ js) = refl
transfers_same (ToPutBack register value ∷ js) = refl
transfers_same (ToJoin ∷ js) = refl
transfers_same (ToLoad to object offset n ∷ js) = refl
transfers_same (ToStore object offset from n ∷ js) = refl
transfers_same (ToRead bytes ∷ js) = refl
transfers_same (ToEnd ∷ js) = refl
