-- Each instruction does the same with its selects as without them.
use Rattle.std.proofs.Common.{◌≡◌, ℕ, Bool, true, false, nat_eq, List, map, Option, Some, None, option_map, refl, sym, ap, ◌∙◌, subst}
use Rattle.std.proofs.Math.Path.{fun_ext}
use Rattle.sym_code.specs.Effect.{Loud, Rest, Thread, Memory, Write, write, Access, Pointer, Event, Silent, Denied, Quiet, Reads, Writes, goes, quiet, file_to_w, file_to_file, store, change, test, put_flag, test_flag}
use Rattle.sym_code.specs.Programs.{Position, behind, onward}
use Rattle.sym_code.specs.Registers.{Registers, result_with, flags_with, skips_with}
use Rattle.sym_code.specs.declared.code.BlockName.{BlockName}
use Rattle.sym_code.specs.declared.code.FileOperation.{FileOperation}
use Rattle.sym_code.specs.declared.code.FileOperation.TheVariants.{Decfsz, Incfsz}
use Rattle.bank_page.specs.Kinds.{skips_by_file}
use Rattle.bank_trace.proofs.Lists.{never}
use Rattle.bank_trace.proofs.Holding.{Bits}
use Rattle.bank_trace.proofs.Banks.{over, result_over, flags_over, skips_over}
use Rattle.bank_trace.proofs.Sites.{Site, without, with}
use Rattle.bank_trace.proofs.Places.{under, AreBack, Onto}
use Rattle.bank_trace.proofs.Twins.{Twin, plain_thread, banked_thread, IsFineTwin, Quietly, Reading, Writing, Does, GetsStuck, Done}

-- no other instruction on a file register skips
skips_only : (r : Registers) (op : FileOperation) (v : ℕ) → skips_with r op v ≡ true → skips_by_file op ≡ true
unfolding skips_with
skips_only r Decfsz v e = refl
skips_only r Incfsz v e = refl
skips_only r op v e = never e

-- ---- an instruction that goes on behind itself
module _ (x : Site) (q : Position) (stack : List Position) (r : Registers) (b : Bits) (open_stack : AreBack x q.block stack) where
  abbrev pub one : Thread
  one = record { rest = None; at = Some (under x q); stack = map (under x) stack; registers = r }

  abbrev pub other : Thread
  other = record { rest = None; at = Some q; stack = stack; registers = over b r }

  abbrev moved : Bool → Registers → Twin
  moved c s = record { rest = None; at = Some (onward (with x) q c); stack = stack; registers = s; bits = b }

  module _ (can_skip : Bool) (next : (c : Bool) → (c ≡ true → can_skip ≡ true) → Onto x b q c) where
    goes_plain : (c : Bool) → (c ≡ true → can_skip ≡ true) → (s : Registers) → goes one (onward (without x) (under x q) c) s ≡ plain_thread x (moved c s)
    goes_plain c ok s =
        let f : Position → Thread = λ p. record { rest = None; at = Some p; stack = map (under x) stack; registers = s } in
        ap f (next c ok).same

    fine_moved : (c : Bool) → (c ≡ true → can_skip ≡ true) → (s : Registers) → IsFineTwin x (moved c s)
    fine_moved c ok s = record { at = (next c ok).fine; stack = subst (λ (n : BlockName). AreBack x n stack) (sym (next c ok).block) open_stack }

    -- it doesn't skip
    abbrev straight : false ≡ true → can_skip ≡ true
    straight e = never e

    pub goes_does : (s : Registers) (w : Option Write) → Does x (Quiet (goes one (behind (without x) (under x q)) s) w) (Quiet (goes other (behind (with x) q) (over b s)) w)
    goes_does s w = Done (Quietly (moved false s) w) (fine_moved false straight s) (ap (λ (t : Thread). Quiet t w) (goes_plain false straight s)) refl refl

    pub store_does : (s : Registers) (v : ℕ) (a : Access) → Does x (store (without x) (under x q) one s v a) (store (with x) q other (over b s) v a)
    store_does s v Pointer = goes_does (record s { fsr = v }) None
    store_does s v (Event l) = Done (Writing l v (moved false s)) (fine_moved false straight s) (ap (Writes l v) (goes_plain false straight s)) refl refl
    store_does s v (Silent k) = goes_does s (write k v)
    store_does s v Denied = GetsStuck refl

    pub change_does : (m : Memory) (f : ℕ → ℕ) (a : Access) → Does x (change (without x) (under x q) one m f a) (change (with x) q other m f a)
    change_does m f Pointer = goes_does (record r { fsr = f r.fsr }) None
    change_does m f (Event l) =
        Done (Reading l (λ v. record (moved false r) { rest = Some (record { to = l; byte = f v }) })) (λ v. record { at = (fine_moved false straight r).at; stack = (fine_moved false straight r).stack })
        (ap (Reads l) (fun_ext (λ (v : ℕ). ap (λ (t : Thread). record t { rest = Some (record { to = l; byte = f v }) }) (goes_plain false straight r)))) refl refl
    change_does m f (Silent k) = goes_does r (write k (f (m k)))
    change_does m f Denied = GetsStuck refl

    onward_does : (c : Bool) → (c ≡ true → can_skip ≡ true) → Does x (quiet (goes one (onward (without x) (under x q) c) r)) (quiet (goes other (onward (with x) q c) (over b r)))
    onward_does c ok = Done (Quietly (moved c r) None) (fine_moved c ok r) (ap quiet (goes_plain c ok r)) refl refl

    pub test_does : can_skip ≡ true → (m : Memory) (holds : ℕ → Bool) (a : Access) → Does x (test (without x) (under x q) one m holds a) (test (with x) q other m holds a)
    test_does may m holds Pointer = onward_does (holds r.fsr) (λ e. may)
    test_does may m holds (Event l) =
        Done (Reading l (λ v. moved (holds v) r)) (λ v. fine_moved (holds v) (λ e. may) r) (ap (Reads l) (fun_ext (λ (v : ℕ). goes_plain (holds v) (λ e. may) r))) refl refl
    test_does may m holds (Silent k) = onward_does (holds (m k)) (λ e. may)
    test_does may m holds Denied = GetsStuck refl

    pub put_flag_does : (o : Option Registers) → Does x (put_flag (without x) (under x q) one o) (put_flag (with x) q other (option_map (over b) o))
    put_flag_does None = GetsStuck refl
    put_flag_does (Some s) = goes_does s None

    pub test_flag_does : can_skip ≡ true → (v : ℕ) (o : Option ℕ) → Does x (test_flag (without x) (under x q) one v o) (test_flag (with x) q other v o)
    test_flag_does may v None = GetsStuck refl
    test_flag_does may v (Some n) = onward_does (nat_eq n v) (λ e. may)

    -- ---- on a file register
    module _ (op : FileOperation) (skips : skips_by_file op ≡ can_skip) where
      skip_ok : (v : ℕ) → skips_with r op v ≡ true → can_skip ≡ true
      skip_ok v e = sym skips ∙ skips_only r op v e

      -- put says where the result goes
      module _ (put : Registers → ℕ → Registers) (same : (s : Registers) (n : ℕ) → put (over b s) n ≡ over b (put s n)) where
        abbrev filed : ℕ → Twin
        filed v = moved (skips_with r op v) (put (flags_with r op v) (result_with r op v))

        fine_filed : (v : ℕ) → IsFineTwin x (filed v)
        fine_filed v = fine_moved (skips_with r op v) (skip_ok v) (put (flags_with r op v) (result_with r op v))

        filed_plain : (v : ℕ) → goes one (onward (without x) (under x q) (skips_with r op v)) (put (flags_with r op v) (result_with r op v)) ≡ plain_thread x (filed v)
        filed_plain v = goes_plain (skips_with r op v) (skip_ok v) (put (flags_with r op v) (result_with r op v))

        filed_banked : (v : ℕ) → goes other (onward (with x) q (skips_with (over b r) op v)) (put (flags_with (over b r) op v) (result_with (over b r) op v)) ≡ banked_thread (filed v)
        filed_banked v =
            ap (λ (c : Bool). goes other (onward (with x) q c) (put (flags_with (over b r) op v) (result_with (over b r) op v))) (skips_over b r op v)
            ∙ ap (λ (s : Registers). goes other (onward (with x) q (skips_with r op v)) (put s (result_with (over b r) op v))) (flags_over b r op v)
            ∙ ap (λ (n : ℕ). goes other (onward (with x) q (skips_with r op v)) (put (over b (flags_with r op v)) n)) (result_over b r op v)
            ∙ ap (λ (s : Registers). goes other (onward (with x) q (skips_with r op v)) s) (same (flags_with r op v) (result_with r op v))

      abbrev in_w : Registers → ℕ → Registers
      in_w s n = record s { w = n }

      abbrev in_fsr : Registers → ℕ → Registers
      in_fsr s n = record s { fsr = n }

      abbrev flags_only : Registers → ℕ → Registers
      flags_only s n = s

      pub file_to_w_does : (m : Memory) (a : Access) → Does x (file_to_w (without x) (under x q) one m op a) (file_to_w (with x) q other m op a)
      file_to_w_does m Pointer = Done (Quietly (filed in_w (λ s n. refl) r.fsr) None) (fine_filed in_w (λ s n. refl) r.fsr) (ap quiet (filed_plain in_w (λ s n. refl) r.fsr)) (ap quiet (filed_banked in_w (λ s n. refl) r.fsr)) refl
      file_to_w_does m (Event l) = Done (Reading l (filed in_w (λ s n. refl))) (fine_filed in_w (λ s n. refl)) (ap (Reads l) (fun_ext (filed_plain in_w (λ s n. refl)))) (ap (Reads l) (fun_ext (filed_banked in_w (λ s n. refl)))) refl
      file_to_w_does m (Silent k) = Done (Quietly (filed in_w (λ s n. refl) (m k)) None) (fine_filed in_w (λ s n. refl) (m k)) (ap quiet (filed_plain in_w (λ s n. refl) (m k))) (ap quiet (filed_banked in_w (λ s n. refl) (m k))) refl
      file_to_w_does m Denied = GetsStuck refl

      abbrev left : Loud → ℕ → Option Rest
      left l n = Some (record { to = l; byte = n })

      abbrev kept : ℕ → Twin
      kept = filed flags_only (λ s n. refl)

      pub file_to_file_does : (m : Memory) (a : Access) → Does x (file_to_file (without x) (under x q) one m op a) (file_to_file (with x) q other m op a)
      file_to_file_does m Pointer = Done (Quietly (filed in_fsr (λ s n. refl) r.fsr) None) (fine_filed in_fsr (λ s n. refl) r.fsr) (ap quiet (filed_plain in_fsr (λ s n. refl) r.fsr)) (ap quiet (filed_banked in_fsr (λ s n. refl) r.fsr)) refl
      file_to_file_does m (Event l) =
          Done (Reading l (λ v. record (kept v) { rest = left l (result_with r op v) }))
          (λ v. record { at = (fine_filed flags_only (λ s n. refl) v).at; stack = (fine_filed flags_only (λ s n. refl) v).stack })
          (ap (Reads l) (fun_ext (λ (v : ℕ). ap (λ (t : Thread). record t { rest = left l (result_with r op v) }) (filed_plain flags_only (λ s n. refl) v))))
          (ap (Reads l) (fun_ext (λ (v : ℕ).
          ap (λ (t : Thread). record t { rest = left l (result_with (over b r) op v) }) (filed_banked flags_only (λ s n. refl) v)
          ∙ ap (λ (n : ℕ). record (banked_thread (kept v)) { rest = left l n }) (result_over b r op v))))
          refl
      file_to_file_does m (Silent k) =
          Done (Quietly (kept (m k)) (write k (result_with r op (m k)))) (fine_filed flags_only (λ s n. refl) (m k))
          (ap (λ (t : Thread). Quiet t (write k (result_with r op (m k)))) (filed_plain flags_only (λ s n. refl) (m k)))
          (ap (λ (t : Thread). Quiet t (write k (result_with (over b r) op (m k)))) (filed_banked flags_only (λ s n. refl) (m k))
          ∙ ap (λ (n : ℕ). Quiet (banked_thread (kept (m k))) (write k n)) (result_over b r op (m k)))
          refl
      file_to_file_does m Denied = GetsStuck refl
