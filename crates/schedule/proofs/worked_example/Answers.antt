use Rattle.std.proofs.Common.{refl, [], ◌∷◌, arith}
use Rattle.std.specs.Prelude.{codes}
use Rattle.std.proofs.lemmas.List.Sums.{AllPass-from_list_all}
use Rattle.text_lines.specs.Text.{split_lines, without_cr}
use Rattle.pic_world.specs.declared.Flag.TheVariants.{Rbif, Intf, Tmr0if}
use Rattle.schedule.specs.ScriptFile.{Blank, Input, At, is_digit, number_onto}
use Rattle.schedule.proofs.worked_example.Goals as goal

pub returns : goal.returns
unfolding split_lines without_cr number_onto
returns c = record {
  pieces = Input (0x5a ∷ 0 ∷ []) ∷ At (record { t = 7; flag = Intf }) ∷ Blank ∷ Input [] ∷ At (record { t = 7; flag = Rbif }) ∷ Input (0xff ∷ []) ∷ At (record { t = 4294967295; flag = Tmr0if }) ∷ [];
  tell = (
    (codes " 5a 00", refl, (refl, refl, (refl, refl, tt))),
    (
      (codes "007", refl, record { some = omega arith; most = omega arith; all = AllPass-from_list_all is_digit (codes "007") refl; value = refl; within = omega arith }),
      (
        refl,
        (
          ([], refl, tt),
          (
            (codes "7", refl, record { some = omega arith; most = omega arith; all = AllPass-from_list_all is_digit (codes "7") refl; value = refl; within = omega arith }),
            (
              (codes " FF", refl, (refl, refl, tt)),
              (
                (codes "4294967295", refl, record { some = omega arith; most = omega arith; all = AllPass-from_list_all is_digit (codes "4294967295") refl; value = refl; within = omega arith }),
                tt,
              ),
            ),
          ),
        ),
      ),
    ),
  );
  input = refl;
  arrivals = refl;
  rising = (omega arith, (omega arith, (omega arith, tt)));
}
