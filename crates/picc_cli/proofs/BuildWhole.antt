-- The files of a program that is compiled are those of its text.
use Rattle.std.proofs.Common.{◌≡◌, ℕ, List}
use Rattle.c_typed.specs.Views.{program_of}
use Rattle.hex_image.specs.HexFile.{IsHexFile}
use Rattle.hex_image.specs.HexText.{hex_text}
use Rattle.pic_chip.specs.declared.profile.Profile.{Profile}
use Rattle.pic_chip.specs.declared.profile.Profile.TheVariants.{Pic16F877a, Pic16F84a}
use Rattle.pic_map.specs.MapFile.{IsMapFile}
use Rattle.pic_map.specs.MapText.{map_text}
use Rattle.pic_map.specs.MapView.{content_of}
use Rattle.picc_core.specs.Compiled.{Build, IsCompiledBy, plain}
use Rattle.picc_core.specs.SecondChip.{second}
use Rattle.picc_core.specs.declared.known.Built.{Built}
use Rattle.picc_cli.specs.Built.{IsBuiltBy}
use Rattle.picc_cli.specs.Made.{PassesMade, files_for}
use Rattle.picc_cli.specs.Outcome.{build_for}

module _ (text hex map : List ℕ) (built : Built) (hex_file : IsHexFile hex built.image) (written : hex ≡ hex_text built.image) (map_file : IsMapFile map (content_of built.map)) (map_written : map ≡ map_text (content_of built.map)) where
  built_by : (b : Build) → IsCompiledBy b text built → IsBuiltBy b text hex map
  built_by b is = record {
    accepted = is.taken;
    tree = is.tree;
    program = program_of built.typed;
    typed = is.typed;
    roots = is.roots;
    acyclic = is.recursion;
    depth = built.depth;
    within = is.depth;
    image = built.image;
    content = content_of built.map;
    hex_file = hex_file;
    written = written;
    map_file = map_file;
    map_written = map_written;
    placed = is.lines;
    faithful = is.faithful;
  }

  pub made_whole : (chip : Profile) → IsCompiledBy (build_for chip) text built → PassesMade chip built → files_for chip text hex map
  unfolding built_by
  made_whole Pic16F877a is passes = record { built = built_by plain is; translated = passes }
  made_whole Pic16F84a is passes = record { built = built_by second is; translated = passes }
