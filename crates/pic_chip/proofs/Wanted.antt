-- Which register an instruction reads from the input list.
use Rattle.std.proofs.Common.{◌≡◌, ℕ, ◌+◌, ◌*◌, ◌/◌, ◌%◌, ◌<◌, Bool, true, false, not, List, [], ◌∷◌, ◌++◌, refl, sym, ap, ◌∙◌, append-nil}
use Rattle.std.specs.Prelude.{if◌then◌else◌, ◌&&◌, nat_eq, Option, Some, None}
use Rattle.std.proofs.lemmas.Bool.{agree_below_at}
use Rattle.pic_chip.specs.State.{State, AtPc, AtBank, AtFsr}
use Rattle.pic_world.specs.Registers.{is_register}
use Rattle.pic_world.specs.Control.{is_stored}
use Rattle.pic_chip.specs.Act.{Derived, Write, Note, made, accesses, Act, Ask, Do, effect}
use Rattle.pic_chip.specs.Address.{Place, Pcl, Status, Fsr, Pclath, Intcon, Pir1, Pie1, General, Device, Nothing, place, indirect, in_every_bank, address_of}
use Rattle.pic_chip.specs.Instructions.{to, following, store, is_empty, contents, big, byte_row_by, test_row_by, write_row_by, note_by, write_note_by}
use Rattle.pic_chip.specs.Named.{IsPlace, device_in}
use Rattle.pic_chip.specs.Machine.{Feeds, wanted_by}
use Rattle.pic_chip.specs.Profiles.{rule_of}
use Rattle.pic_chip.specs.SmallAddress.{small, small_place, small_indirect, small_address_of, is_small_register}
use Rattle.pic_chip.specs.declared.profile.Profile.{Profile}
use Rattle.pic_chip.specs.declared.profile.Profile.TheVariants.{Pic16F877a, Pic16F84a}
use Rattle.pic_chip.proofs.Done.{row_notes, test_notes}

general_is_none : (q : Profile) (k : ℕ) → k < (rule_of q).bytes → (rule_of q).is_register ((rule_of q).lowest k) ≡ false
general_is_none Pic16F877a k h = agree_below_at (λ k. is_register (address_of k)) (λ k. false) 368 k refl h
general_is_none Pic16F84a k h = agree_below_at (λ k. is_small_register (small_address_of k)) (λ k. false) 68 k refl h

-- the place's number, told as an access
abbrev low : Profile → Bool → Place → Derived → List Note
low q = note_by (rule_of q).lowest

abbrev also : Profile → Bool → Place → Derived → List Note
also q = write_note_by (rule_of q).lowest

write_alone : (q : Profile) (p : Place) (v : Derived) (s : State) → wanted_by (rule_of q) (made (low q true p v) s) ≡ None
write_alone q Pcl v s = refl
write_alone q Status v s = refl
write_alone q Fsr v s = refl
write_alone q Pclath v s = refl
write_alone q Intcon v s = refl
write_alone q Pir1 v s = refl
write_alone q Pie1 v s = refl
write_alone q (General k) v s = refl
write_alone q (Device a) v s = refl
write_alone q Nothing v s = refl

write_wants : (q : Profile) (d : Bool) (p : Place) (v : Derived) (s : State) → wanted_by (rule_of q) (made (also q d p v) s) ≡ None
write_wants q true p v s = write_alone q p v s
write_wants q false p v s = refl

read_wants : (q : Profile) (p : Place) → IsPlace q p → (x : Derived) (d : Bool) (v : Derived) (s : State) → wanted_by (rule_of q) (made (low q false p x ++ also q d p v) s) ≡ device_in p
read_wants Pic16F877a Pcl h x d v s = write_wants Pic16F877a d Pcl v s
read_wants Pic16F84a Pcl h x d v s = write_wants Pic16F84a d Pcl v s
read_wants Pic16F877a Status h x d v s = write_wants Pic16F877a d Status v s
read_wants Pic16F84a Status h x d v s = write_wants Pic16F84a d Status v s
read_wants Pic16F877a Fsr h x d v s = write_wants Pic16F877a d Fsr v s
read_wants Pic16F84a Fsr h x d v s = write_wants Pic16F84a d Fsr v s
read_wants Pic16F877a Pclath h x d v s = write_wants Pic16F877a d Pclath v s
read_wants Pic16F84a Pclath h x d v s = write_wants Pic16F84a d Pclath v s
read_wants Pic16F877a Intcon h x d v s = write_wants Pic16F877a d Intcon v s
read_wants Pic16F84a Intcon h x d v s = write_wants Pic16F84a d Intcon v s
read_wants Pic16F877a Pir1 h x d v s = write_wants Pic16F877a d Pir1 v s
read_wants Pic16F84a Pir1 h x d v s = write_wants Pic16F84a d Pir1 v s
read_wants Pic16F877a Pie1 h x d v s = write_wants Pic16F877a d Pie1 v s
read_wants Pic16F84a Pie1 h x d v s = write_wants Pic16F84a d Pie1 v s
read_wants q (General k) h x d v s =
    let c = rule_of q in
    ap (λ b. if b && not (c.is_stored (c.lowest k)) then Some (c.lowest k) else wanted_by c (made (also q d (General k) v) s)) (general_is_none q k h)
    ∙ write_wants q d (General k) v s
read_wants q (Device a) h x d v s =
    let c = rule_of q in
    ap (λ b. if b && not (c.is_stored a) then Some a else wanted_by c (made (also q d (Device a) v) s)) h.0
    ∙ ap (λ b. if not b then Some a else wanted_by c (made (also q d (Device a) v) s)) h.1
read_wants q Nothing h x d v s = write_wants q d Nothing v s

read_alone : (q : Profile) (p : Place) → IsPlace q p → (x : Derived) (s : State) → wanted_by (rule_of q) (made (low q false p x) s) ≡ device_in p
read_alone q p h x s = ap (λ ns. wanted_by (rule_of q) (made ns s)) (sym (append-nil (low q false p x))) ∙ read_wants q p h x false x s

module _ (q : Profile) (inputs : List ℕ) (s : State) (f : ℕ) (p : Place) (fits : IsPlace q p) (leads : (next : Place → Act) → effect ((rule_of q).find f next) s ≡ effect (next p) s) where
  pub byte_wants : (d : Bool) (result : Derived → Derived) (flags : Derived → List Write) (next : Derived → Derived) → device_in p ≡ wanted_by (rule_of q) (accesses (byte_row_by (rule_of q) inputs s.pc f d result flags next) s)
  byte_wants d result flags next =
      sym (read_wants q p fits (contents inputs s.pc p) d (result (contents inputs s.pc p)) s)
      ∙ ap (wanted_by (rule_of q)) (row_notes (rule_of q) inputs s f p leads d result flags next)

  pub test_wants : (b v : ℕ) → device_in p ≡ wanted_by (rule_of q) (accesses (test_row_by (rule_of q) inputs s.pc f b v) s)
  test_wants b v = sym (read_alone q p fits (contents inputs s.pc p) s) ∙ ap (wanted_by (rule_of q)) (test_notes (rule_of q) inputs s f p leads b v)

-- what holds of every place holds of the one to which an operand leads
abbrev IsQuiet : Profile → (Place → Act) → State → Type 0
IsQuiet q next s = (p : Place) → wanted_by (rule_of q) (accesses (next p) s) ≡ None

operand_wants : (b c : Bool) (f : ℕ) (s : State) (next : Place → Act) → IsQuiet Pic16F877a next s →
    wanted_by big (accesses (if b then next (place 0 f) else if c then Ask AtBank (λ bank. Ask AtFsr (λ fsr. next (indirect (256 * (bank / 4) + fsr)))) else Ask AtBank (λ bank. next (place (bank % 4) f))) s) ≡ None
operand_wants true c f s next h = h (place 0 f)
operand_wants false true f s next h = h (indirect (256 * (s.bank / 4) + s.fsr))
operand_wants false false f s next h = h (place (s.bank % 4) f)

small_operand_wants : (b : Bool) (f : ℕ) (s : State) (next : Place → Act) → IsQuiet Pic16F84a next s →
    wanted_by small (accesses (if b then Ask AtFsr (λ fsr. next (small_indirect fsr)) else Ask AtBank (λ bank. next (small_place (bank % 2) f))) s) ≡ None
small_operand_wants true f s next h = h (small_indirect s.fsr)
small_operand_wants false f s next h = h (small_place (s.bank % 2) f)

any_operand_wants : (q : Profile) (f : ℕ) (s : State) (next : Place → Act) → IsQuiet q next s → wanted_by (rule_of q) (accesses ((rule_of q).find f next) s) ≡ None
any_operand_wants Pic16F877a f s next h = operand_wants (in_every_bank f) (nat_eq f 0) f s next h
any_operand_wants Pic16F84a f s next h = small_operand_wants (nat_eq f 0) f s next h

pub write_row_wants : (q : Profile) (pc f : ℕ) (v : Derived) (ws : List Write) (s : State) → wanted_by (rule_of q) (accesses (write_row_by (rule_of q) pc f v ws) s) ≡ None
write_row_wants q pc f v ws s = any_operand_wants q f s (λ p. Do (record { writes = to AtPc (following pc) ∷ (store (is_empty ws) p v ++ ws); notes = note_by (rule_of q).lowest true p v })) (λ p. write_alone q p v s)

-- a byte that is given for a register is given for the same one by another name
pub fed : (inputs : List ℕ) (taken input : ℕ) (v w : Option ℕ) → v ≡ w → Feeds inputs taken input w → Feeds inputs taken input v
fed inputs taken input None w e h = tt
fed inputs taken input (Some a) (Some b) e h = h
fed inputs taken input (Some a) None e h = absurd (cc)
