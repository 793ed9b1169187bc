-- What operations make of numbers that are known, and what they leave as it was.
use Rattle.std.proofs.Common.{◌≡◌, ℕ, Bool, true, false, if◌then◌else◌, Option, Some, None, option_map, refl, sym, ap, ◌∙◌, arith}
use Rattle.std.specs.Prelude.{◌+◌, ◌%◌, ◌||◌, nat_eq, nat_lt, bit_and, bit_or, bit_xor}
use Rattle.std.specs.Int.Bits.{xor_zero_r}
use Rattle.std.proofs.lemmas.Bool.{eqb-true}
use Rattle.std.proofs.lemmas.Nat.{and_comm, and_le_r}
use Rattle.std.proofs.lemmas.Option.{none-some}
use Rattle.pic_chip.specs.Instructions.{sum, difference, complement, increment, decrement}
use Rattle.pic_world.specs.Bits.{truth, bit}
use Rattle.sym_code.specs.Registers.{Registers, result_with, flags_with, skips_with}
use Rattle.sym_code.specs.declared.code.FileOperation.{FileOperation}
use Rattle.sym_code.specs.declared.code.FileOperation.TheVariants as files
use Rattle.sym_code.specs.declared.code.LiteralOperation.{LiteralOperation}
use Rattle.sym_code.specs.declared.code.LiteralOperation.TheVariants as literals
use Rattle.lean_code.specs.Computed.{way_of_test, both, is_none_left, masked, computed, file_for, way_of}
use Rattle.lean_code.specs.Changes.{flags_in, is_number, same_known, leaves_w, literal_for}
use Rattle.lean_code.proofs.Alike.{or_none}
use Rattle.lean_code.proofs.Lists.{never}

some_eq : (n k : ℕ) → Some n ≡ Some k → n ≡ k
some_eq n k e = cc

pub some_same : (b c : Bool) → Some b ≡ Some c → b ≡ c
some_same b c e = cc

-- a number that is known of a part
abbrev pub Says : Option ℕ → ℕ → Type 0
Says o v = (i : ℕ) → o ≡ Some i → v ≡ i

pub says_number : (o : Option ℕ) (v n : ℕ) → Says o v → is_number o n ≡ true → v ≡ n
says_number None v n h e = never e
says_number (Some k) v n h e = h k refl ∙ eqb-true k n e

pub same_known_is : (o q : Option ℕ) (a b : ℕ) → Says o a → Says q b → same_known o q ≡ true → a ≡ b
same_known_is None q a b h k e = never e
same_known_is (Some n) q a b h k e = h n refl ∙ sym (says_number q b n k e)

-- ---- results
both_is : (g : ℕ → ℕ → ℕ) (w byte : Option ℕ) (a b n : ℕ) → Says w a → Says byte b → both g w byte ≡ Some n → g a b ≡ n
both_is g None byte a b n h k e = absurd (none-some n e)
both_is g (Some w) None a b n h k e = absurd (none-some n e)
both_is g (Some w) (Some y) a b n h k e = ap (λ (i : ℕ). g i b) (h w refl) ∙ ap (g w) (k y refl) ∙ some_eq (g w y) n e

map_is : (g : ℕ → ℕ) (byte : Option ℕ) (b n : ℕ) → Says byte b → option_map g byte ≡ Some n → g b ≡ n
map_is g None b n k e = absurd (none-some n e)
map_is g (Some y) b n k e = ap g (k y refl) ∙ some_eq (g y) n e

none_is : (o : Option ℕ) (v : ℕ) → Says o v → is_none_left o ≡ true → v ≡ 0
none_is None v h e = never e
none_is (Some n) v h e = h n refl ∙ eqb-true n 0 e

and_none : (a : ℕ) → bit_and a 0 ≡ 0
and_none a = let l = and_le_r a 0 in omega arith

masked_is : (w byte : Option ℕ) (a b n : ℕ) → Says w a → Says byte b → masked w byte ≡ Some n → bit_and a b ≡ n
masked_is w byte a b n h k e = by_case (is_none_left w) (is_none_left byte) (none_is w a h) (none_is byte b k) e
  where
    by_case : (c d : Bool) → (c ≡ true → a ≡ 0) → (d ≡ true → b ≡ 0) → (if c || d then Some 0 else both bit_and w byte) ≡ Some n → bit_and a b ≡ n
    by_case true d p q e = and_comm a b ∙ ap (bit_and b) (p refl) ∙ and_none b ∙ some_eq 0 n e
    by_case false true p q e = ap (bit_and a) (q refl) ∙ and_none a ∙ some_eq 0 n e
    by_case false false p q e = both_is bit_and w byte a b n h k e

pub computed_is : (op : FileOperation) (r : Registers) (v n : ℕ) (w byte : Option ℕ) → Says w r.w → Says byte v → computed op w byte ≡ Some n → result_with r op v ≡ n
unfolding result_with
computed_is files.Addwf r v n w byte h k e = both_is sum w byte r.w v n h k e
computed_is files.Andwf r v n w byte h k e = masked_is w byte r.w v n h k e
computed_is files.Comf r v n w byte h k e = map_is complement byte v n k e
computed_is files.Decf r v n w byte h k e = map_is decrement byte v n k e
computed_is files.Decfsz r v n w byte h k e = map_is decrement byte v n k e
computed_is files.Incf r v n w byte h k e = map_is increment byte v n k e
computed_is files.Incfsz r v n w byte h k e = map_is increment byte v n k e
computed_is files.Iorwf r v n w byte h k e = both_is bit_or w byte r.w v n h k e
computed_is files.Movf r v n w byte h k e = k n e
computed_is files.Subwf r v n w byte h k e = both_is difference w byte r.w v n h k e
computed_is files.Xorwf r v n w byte h k e = both_is bit_xor w byte r.w v n h k e
computed_is op r v n w byte h k e = absurd (none-some n e)

-- 0 leaves W
pub left_is : (op : FileOperation) (r : Registers) (v : ℕ) (byte : Option ℕ) → Says byte v → leaves_w op byte ≡ true → result_with r op v ≡ r.w
unfolding result_with
left_is files.Iorwf r v byte k e = ap (bit_or r.w) (says_number byte v 0 k e) ∙ or_none r.w
left_is files.Xorwf r v byte k e = ap (bit_xor r.w) (says_number byte v 0 k e) ∙ xor_zero_r r.w
left_is op r v byte k e = never e

pub left_sets : (op : FileOperation) (byte : Option ℕ) → leaves_w op byte ≡ true → (flags_in op).z ≡ true
left_sets files.Iorwf byte e = refl
left_sets files.Xorwf byte e = refl
left_sets op byte e = never e

-- ---- Z
pub zero_is : (op : FileOperation) (r : Registers) (v : ℕ) → (flags_in op).z ≡ true → (flags_with r op v).z ≡ truth (nat_eq (result_with r op v) 0)
unfolding flags_with result_with
zero_is files.Decfsz r v e = never e
zero_is files.Incfsz r v e = never e
zero_is files.Swapf r v e = never e
zero_is files.Rlf r v e = never e
zero_is files.Rrf r v e = never e
zero_is files.Addwf r v e = refl
zero_is files.Subwf r v e = refl
zero_is files.Andwf r v e = refl
zero_is files.Iorwf r v e = refl
zero_is files.Xorwf r v e = refl
zero_is files.Comf r v e = refl
zero_is files.Decf r v e = refl
zero_is files.Incf r v e = refl
zero_is files.Movf r v e = refl

pub zero_stays : (op : FileOperation) (r : Registers) (v : ℕ) → (flags_in op).z ≡ false → (flags_with r op v).z ≡ r.z
unfolding flags_with
zero_stays files.Decfsz r v e = refl
zero_stays files.Incfsz r v e = refl
zero_stays files.Swapf r v e = refl
zero_stays files.Rlf r v e = refl
zero_stays files.Rrf r v e = refl
zero_stays files.Addwf r v e = never (sym e)
zero_stays files.Subwf r v e = never (sym e)
zero_stays files.Andwf r v e = never (sym e)
zero_stays files.Iorwf r v e = never (sym e)
zero_stays files.Xorwf r v e = never (sym e)
zero_stays files.Comf r v e = never (sym e)
zero_stays files.Decf r v e = never (sym e)
zero_stays files.Incf r v e = never (sym e)
zero_stays files.Movf r v e = never (sym e)

-- ---- ways
says_map : (g : ℕ → Bool) (byte : Option ℕ) (v : ℕ) (b : Bool) → Says byte v → option_map g byte ≡ Some b → g v ≡ b
says_map g None v b k e = absurd (cc)
says_map g (Some n) v b k e = ap g (k n refl) ∙ some_same (g n) b e

two_is : (c : Bool) → nat_eq ((0 + (if c then 2 else 1)) % 8192) 2 ≡ c
two_is true = refl
two_is false = refl

pub way_is : (op : FileOperation) (r : Registers) (v : ℕ) (byte : Option ℕ) (b : Bool) → Says byte v → way_of op byte ≡ Some b → skips_with r op v ≡ b
unfolding skips_with
way_is files.Decfsz r v byte b k e = two_is (nat_eq (decrement v) 0) ∙ says_map (λ n. nat_eq (decrement n) 0) byte v b k e
way_is files.Incfsz r v byte b k e = two_is (nat_eq (increment v) 0) ∙ says_map (λ n. nat_eq (increment n) 0) byte v b k e
way_is op r v byte b k e = some_same false b e

pub bit_way_is : (v b : ℕ) (byte : Option ℕ) (value : ℕ) (c : Bool) → Says byte v → way_of_test value byte b ≡ Some c → nat_eq (bit v b) value ≡ c
bit_way_is v b byte value c k e = by_case (nat_lt b 8) e
  where
    by_case : (d : Bool) → (if d then option_map (λ n. nat_eq (bit n b) value) byte else None) ≡ Some c → nat_eq (bit v b) value ≡ c
    by_case true e = says_map (λ n. nat_eq (bit n b) value) byte v c k e
    by_case false e = absurd (cc)

-- ---- operations on W and a number
inner : (a b : FileOperation) → Some a ≡ Some b → a ≡ b
inner a b e = cc

pub file_is : (new : LiteralOperation) (op : FileOperation) → file_for new ≡ Some op → literal_for op ≡ Some new
file_is literals.Addlw op e = ap literal_for (sym (inner files.Addwf op e))
file_is literals.Andlw op e = ap literal_for (sym (inner files.Andwf op e))
file_is literals.Iorlw op e = ap literal_for (sym (inner files.Iorwf op e))
file_is literals.Sublw op e = ap literal_for (sym (inner files.Subwf op e))
file_is literals.Xorlw op e = ap literal_for (sym (inner files.Xorwf op e))
file_is new op e = absurd (cc)

pub no_move : (new : LiteralOperation) (op : FileOperation) → file_for new ≡ Some op → new ≡ literals.Movlw → ⊥
no_move literals.Movlw op e is = absurd (cc)
no_move new op e is = absurd (cc)
