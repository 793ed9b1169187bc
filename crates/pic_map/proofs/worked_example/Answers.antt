use Rattle.std.proofs.Common.{refl, [], ◌∷◌, arith}
use Rattle.std.specs.Prelude.{codes}
use Rattle.std.proofs.lemmas.List.Sums.{AllPass-from_list_all}
use Rattle.text_lines.specs.Text.{split_lines, without_cr, bytes_of}
use Rattle.pic_map.specs.MapFile.{is_name_byte}
use Rattle.pic_map.proofs.worked_example.Goals as goal

pub returns : goal.returns
unfolding split_lines without_cr bytes_of
returns c = record {
  main_line = codes "main 0005";
  halt_line = codes "halt 00aF";
  object_lines = codes "static t.0.lo 0020 2" ∷ codes "const k 0030 12" ∷ [];
  frame_lines = codes "frame main main 0022 3" ∷ [];
  lines = refl;
  main = record { digits = codes "0005"; spelled = refl; at = refl; within = omega arith };
  halt = record { digits = codes "00aF"; spelled = refl; at = refl; within = omega arith };
  objects = (
    record {
      tail = codes " 0020 2";
      spelled = refl;
      name = record { some = omega arith; bytes = AllPass-from_list_all is_name_byte (codes "t.0.lo") refl };
      place = record { digits = codes "0020"; spelled = refl; at = refl; within = omega arith; most = omega arith };
    },
    (
      record {
        tail = codes " 0030 12";
        spelled = refl;
        name = record { some = omega arith; bytes = AllPass-from_list_all is_name_byte (codes "k") refl };
        place = record { digits = codes "0030"; spelled = refl; at = refl; within = omega arith; most = omega arith };
      },
      tt,
    ),
  );
  frames = (
    record {
      tail = codes " 0022 3";
      spelled = refl;
      name = record { some = omega arith; bytes = AllPass-from_list_all is_name_byte (codes "main") refl };
      place = record { digits = codes "0022"; spelled = refl; at = refl; within = omega arith; most = omega arith };
    },
    tt,
  );
}
