-- A map file written out by hand, with a CR, lower case digits and no last LF.
use Rattle.std.specs.Prelude.{ℕ, true, false, List, [], ◌∷◌, ◌++◌, codes}
use Rattle.pic_world.specs.declared.Root.TheVariants.{Main}
use Rattle.pic_map.specs.MapContent.{MapContent}

abbrev pub example_text : List ℕ
example_text =
    codes "picc map 1" ++ 13 ∷ 10 ∷ codes "main 0005" ++ 10 ∷ codes "halt 00aF" ++ 10 ∷ codes "static t.0.lo 0020 2" ++ 10 ∷ codes "const k 0030 12" ++ 10 ∷ codes "frame main main 0022 3" ++ 10 ∷ codes "end"

abbrev pub example_map : MapContent
example_map = record {
  main = 0x0005;
  halt = 0x00af;
  objects = record { constant = false; name = codes "t.0.lo"; address = 0x20; size = 2 } ∷ record { constant = true; name = codes "k"; address = 0x30; size = 12 } ∷ [];
  frames = record { root = Main; name = codes "main"; address = 0x22; size = 3 } ∷ [];
}
