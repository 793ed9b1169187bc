-- A script file written out by hand, with an empty line, a CR, lower case digits and no last LF.
use Rattle.std.specs.Prelude.{ℕ, List, [], ◌∷◌, ◌++◌, codes}
use Rattle.pic_world.specs.declared.Flag.TheVariants.{Rbif, Intf, Tmr0if}
use Rattle.schedule.specs.ScriptFile.{ScriptContent}

abbrev pub example_text : List ℕ
example_text = codes "input 5a 00" ++ 10 ∷ codes "at 007 INTF" ++ 13 ∷ 10 ∷ 10 ∷ codes "input" ++ 10 ∷ codes "at 7 RBIF" ++ 10 ∷ codes "input FF" ++ 10 ∷ codes "at 4294967295 TMR0IF"

abbrev pub example_script : ScriptContent
example_script = record {
  input = 0x5a ∷ 0 ∷ 0xff ∷ [];
  arrivals = record { t = 7; flag = Intf } ∷ record { t = 7; flag = Rbif } ∷ record { t = 4294967295; flag = Tmr0if } ∷ [];
}
