-- Constant expressions and enumerators: the tables stay in order, and the innermost scope gets the enumerators alone.
use Rattle.std.proofs.Common.{◌≡◌, ℕ, ℤ, false, not, List, [], ◌∷◌, None, refl}
use Rattle.std.specs.Prelude.{pos, ◌+ℤ◌}
use Rattle.c_nodes.specs.Trees as tree
use Rattle.c_nodes.specs.Trees.{Tree, EnumeratorTree, MoreEnumerators}
use Rattle.c_nodes.specs.Words.{Symbol}
use Rattle.c_typed.specs.Folding.{folded}
use Rattle.c_typed.specs.declared.folding.Folded.{Folded}
use Rattle.c_typed.specs.declared.folding.Folded.TheVariants as folding
use Rattle.c_typed.specs.declared.types.Qualified.{Qualified}
use Rattle.type_rules.specs.Constants.{number_in, constant_value, is_length, array_length}
use Rattle.type_rules.specs.Enumerators.{is_int, numbered, enumerator, more_enumerators, enumerators}
use Rattle.type_rules.specs.Faults as kind
use Rattle.type_rules.specs.Known.{EnumeratorName, Known, given, go_on}
use Rattle.type_rules.specs.Names.{is_declared, bind, bound_in}
use Rattle.typed_laws.specs.Going.{Goes}
use Rattle.typed_laws.specs.Spreading.{Runs}
use Rattle.typed_laws.specs.Tables.{at, IsBound, Orderly}
use Rattle.typed_laws.proofs.Expressions.{value_of_goes}
use Rattle.typed_laws.proofs.Outlines.{scoped_orderly, scoped_grows}
use Rattle.typed_laws.proofs.Scopes.{bound_holds}
use Rattle.typed_laws.proofs.Spreading.{runs_given, runs_on, runs_test, from_goes}
use Rattle.typed_laws.proofs.Steps.{goes_given, goes_broken, goes_on, goes_test}

-- ---- constants

module _ (known : Known) where
  pub number_goes : (f : Folded) (line : ℕ) (ts : List Qualified) → Orderly (at known ts) → Goes known ts (λ us v. Unit {0}) (number_in f line (at known ts))
  number_goes (folding.Value v) line ts o = goes_given known _ _ ts o tt
  number_goes _ line ts o = goes_broken known _ ts _

  pub constant_goes : (e : Tree) (ts : List Qualified) → Orderly (at known ts) → Goes known ts (λ us v. Unit {0}) (constant_value e (at known ts))
  constant_goes e ts o = goes_on known _ _ ts _ _ (value_of_goes known e ts o) (λ x us adds ordered h. number_goes (folded x.value) x.line us ordered)

  -- the length of an array
  pub length_goes : (e : Tree) (ts : List Qualified) → Orderly (at known ts) → Goes known ts (λ us n. Unit {0}) (array_length e (at known ts))
  length_goes e ts o = goes_on known _ _ ts _ _ (value_of_goes known e ts o)
      (λ x us adds ordered h. goes_on known (λ us v. Unit {0}) _ us _ _ (number_goes (folded x.value) x.line us ordered)
      (λ v vs adds2 ordered2 u. goes_test known _ vs (not (is_length v.number)) kind.Size x.line _ (λ e. goes_given known _ _ vs ordered2 tt)))

-- ---- enumerators

-- an enumerator that gets its number
given_number : (known : Known) → Orderly known → (name : Symbol) (n : ℤ) → is_declared known name.bytes ≡ false → Runs None false known (λ m k. Unit {0}) (go_on (λ u. given (n +ℤ pos 1)) (bind name.bytes (EnumeratorName n) known))
unfolding Runs
given_number known o name n new = record {
  spreads = record {
    grows = scoped_grows known (bound_in known.scopes name.bytes (EnumeratorName n)) known.lists;
    spared = λ m s there body free. there;
    scopes = ((name.bytes, n) ∷ [], refl, (new, tt));
    signatures = refl;
    definitions = refl;
    statics = refl;
    body = refl;
  };
  orderly = scoped_orderly known (bound_in known.scopes name.bytes (EnumeratorName n)) known.lists o (bound_holds (IsBound known) known.scopes name.bytes (EnumeratorName n) tt o.scopes);
  holds = tt;
}

numbered_runs : (known : Known) → Orderly known → (name : Symbol) (n : ℤ) → Runs None false known (λ m k. Unit {0}) (numbered name n known)
numbered_runs known o name n =
    runs_test None false _ known (is_declared known name.bytes) kind.Again ((not (is_int n), kind.Constant) ∷ []) name.line (λ u. λ k. go_on (λ x. given (n +ℤ pos 1)) (bind name.bytes (EnumeratorName n) k)) (λ new.
    runs_test None false _ known (not (is_int n)) kind.Constant [] name.line (λ u. λ k. go_on (λ x. given (n +ℤ pos 1)) (bind name.bytes (EnumeratorName n) k)) (λ e. given_number known o name n new))

enumerator_runs : (known : Known) → Orderly known → (e : EnumeratorTree) (next : ℤ) → Runs None false known (λ m k. Unit {0}) (enumerator e next known)
enumerator_runs known o (tree.Bare name) next = numbered_runs known o name next
enumerator_runs known o (tree.Valued name equals e) next = runs_on None false (λ v k. Unit {0}) _ known _ _ (from_goes (λ v k. Unit {0}) known _ (constant_goes known e known.targets o)) (λ v mid s o2 u. numbered_runs mid o2 name v.number)

more_enumerators_run : (known : Known) → Orderly known → (es : MoreEnumerators) (next : ℤ) → Runs None false known (λ m k. Unit {0}) (more_enumerators es next known)
more_enumerators_run known o tree.NoEnumerator next = runs_given None false _ known _ o tt
more_enumerators_run known o (tree.AndEnumerator comma e es) next = runs_on None false (λ m k. Unit {0}) _ known _ _ (enumerator_runs known o e next) (λ after mid s o2 u. more_enumerators_run mid o2 es after)

pub enumerators_run : (known : Known) → Orderly known → (e : EnumeratorTree) (es : MoreEnumerators) → Runs None false known (λ m k. Unit {0}) (enumerators e es known)
enumerators_run known o e es = runs_on None false (λ m k. Unit {0}) _ known _ _ (enumerator_runs known o e (pos 0)) (λ next mid s o2 u. more_enumerators_run mid o2 es next)
