-- The contents of a map of files after a change.
use Rattle.std.proofs.Common.{◌≡◌, ℕ, List, [], ◌++◌, Bool, not, Result, Ok, Err, OnOk, OnErr, true, false, Option, Some, None, option_map, refl, sym, ◌∙◌, ap, cond, Vec, String, string_bytes, Global}
use mathlib.Core.Path.{fun_ext}
use Rattle.std.specs.Str.{bytes_eq}
use Rattle.std.specs.Prelude.{if◌then◌else◌, is_ok, is_some, is_none, unwrap_or}
use Rattle.std.specs.declared.alloc.AllocError.{AllocError}
use Rattle.std.specs.String.{string_cmp}
use Rattle.std.specs.Ordering.{nat_cmp}
use Rattle.std.specs.Cmp.Lexicographic.{slice_cmp}
use Rattle.std.specs.BTreeMap.{BTreeMap, UpdatesBy, get_by_text}
use Rattle.std.proofs.lemmas.Map.Text.{btree_map_updates_text}
use Rattle.std.proofs.lemmas.Slice.Eq.{bytes_eq-Decides}
use Rattle.host_io.specs.Host.{Contents, put, bytes_of}
use Rattle.host_io.specs.Memory.{contents_of}

chosen : (b : Bool) (bytes : Vec ℕ Global) (other : Option (Vec ℕ Global))
    → option_map (λ bytes. bytes.items) (cond b (Some bytes) other) ≡ (if b then Some bytes.items else option_map (λ bytes. bytes.items) other)
chosen true bytes other = refl
chosen false bytes other = refl

pub contents_of-stored : (name : List ℕ) (old new : BTreeMap (String Global) (Vec ℕ Global)) (bytes : Vec ℕ Global)
    → UpdatesBy string_cmp (λ key. slice_cmp nat_cmp name (string_bytes key)) old new (Some bytes) → contents_of new ≡ put name bytes.items (contents_of old)
contents_of-stored name old new bytes updates = fun_ext (λ other.
    ap (λ (found : Option (Vec ℕ Global)). option_map (λ bytes. bytes.items) found) (btree_map_updates_text name old new (Some bytes) updates other)
    ∙ chosen (bytes_eq name other) bytes (get_by_text old other))

kept : (contents : Contents) (name bytes other : List ℕ) (b : Bool) → (b ≡ true → name ≡ other) → contents name ≡ Some bytes
    → (if b then Some bytes else contents other) ≡ contents other
kept contents name bytes other true same has = sym has ∙ ap contents (same refl)
kept contents name bytes other false same has = refl

pub put-same : (contents : Contents) (name bytes : List ℕ) → contents name ≡ Some bytes → put name bytes contents ≡ contents
put-same contents name bytes has = fun_ext (λ other. kept contents name bytes other (bytes_eq name other) (bytes_eq-Decides name other).0 has)

pub extended : (old new : Contents) (name bytes more items : List ℕ) (result : Result (Unit {0}) AllocError)
    → new ≡ put name items old → old name ≡ Some bytes → items ≡ (if is_ok result then bytes ++ more else bytes)
    → OnOk result (new ≡ put name (bytes_of old name ++ more) old) × OnErr result (new ≡ old)
extended old new name bytes more items (Ok done) stored has is =
    (stored ∙ ap (λ (b : List ℕ). put name b old) (is ∙ ap (λ (b : Option (List ℕ)). unwrap_or b [] ++ more) (sym has)), tt)
extended old new name bytes more items (Err error) stored has is =
    (tt, stored ∙ ap (λ (b : List ℕ). put name b old) is ∙ put-same old name bytes has)

pub none_found : {X Y : Type 0} (f : X → Y) (found : Option X) → not (is_some found) ≡ is_none (option_map f found)
none_found f (Some x) = refl
none_found f None = refl
