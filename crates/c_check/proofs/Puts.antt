-- First bytes of a static object and items of a local, put one behind the other.
use Rattle.std.proofs.Common.{ℕ, ◌+◌, ◌<◌, ◌≤◌, ◌≡◌, List, [], ◌∷◌, ◌++◌, length, drop, get_or, ap, sym, ◌∙◌, append-nil, append_assoc, drop-cons, add-one}
use Rattle.std.proofs.lemmas.List.{drop_all}
use Rattle.c_typed.specs.declared.program.Initial.{Initial}
use Rattle.c_typed.specs.declared.program.InitialByte.TheVariants as initial
use Rattle.type_rules.specs.Slots.{bytes_at, address_bytes}

abbrev pub byte_at : ℕ → ℕ → Initial
byte_at offset b = record { offset = offset; byte = initial.Number b }

front : (at i : ℕ) (bytes : List ℕ) → i < length bytes → bytes_at at (drop i bytes) ≡ byte_at at (get_or bytes i 0) ∷ bytes_at (at + 1) (drop (i + 1) bytes)
front at i bytes h = ap (bytes_at at) (drop-cons bytes i 0 h) ∙ ap (λ k. byte_at at (get_or bytes i 0) ∷ bytes_at (at + 1) (drop k bytes)) (sym (add-one i))

pub one_more : (old new whole : List Initial) (at n i : ℕ) (bytes : List ℕ) → i < length bytes → new ≡ old ++ byte_at at (get_or bytes i 0) ∷ [] → n ≡ at + 1 → old ++ bytes_at at (drop i bytes) ≡ whole → new ++ bytes_at n (drop (i + 1) bytes) ≡ whole
one_more old new whole at n i bytes h put step e =
    ap (λ xs. xs ++ bytes_at n (drop (i + 1) bytes)) put
    ∙ ap (λ k. (old ++ byte_at at (get_or bytes i 0) ∷ []) ++ bytes_at k (drop (i + 1) bytes)) step
    ∙ append_assoc old (byte_at at (get_or bytes i 0) ∷ []) (bytes_at (at + 1) (drop (i + 1) bytes))
    ∙ ap (λ xs. old ++ xs) (sym (front at i bytes h)) ∙ e

pub all_put : (old whole : List Initial) (at i : ℕ) (bytes : List ℕ) → length bytes ≤ i → old ++ bytes_at at (drop i bytes) ≡ whole → old ≡ whole
all_put old whole at i bytes h e = sym (append-nil old) ∙ ap (λ xs. old ++ bytes_at at xs) (sym (drop_all i bytes h)) ∙ e

pub address_put : (old mid new : List Initial) (offset n object : ℕ) → mid ≡ old ++ record { offset = offset; byte = initial.Address object 0 } ∷ [] → n ≡ offset + 1 → new ≡ mid ++ record { offset = n; byte = initial.Address object 1 } ∷ [] → new ≡ old ++ address_bytes offset object
address_put old mid new offset n object first step second =
    second ∙ ap (λ xs. xs ++ record { offset = n; byte = initial.Address object 1 } ∷ []) first
    ∙ ap (λ k. (old ++ record { offset = offset; byte = initial.Address object 0 } ∷ []) ++ record { offset = k; byte = initial.Address object 1 } ∷ []) step
    ∙ append_assoc old (record { offset = offset; byte = initial.Address object 0 } ∷ []) (record { offset = offset + 1; byte = initial.Address object 1 } ∷ [])
