use Rattle.picc_cli.specs.CommandView.{names_of}
use Rattle.picc_cli.proofs.Files.{unmade_files, broken_hex, broken_map, built_files}
use Rattle.picc_cli.proofs.building.run.Goals as goal

pub returns-in-Err-clause-files : goal.returns-in-Err-clause-files
returns-in-Err-clause-files g c =
    unmade_files _ _ _ (names_of c.args.files) _ _ c.in-Ok.ensures.bytes c.in-Ok.ensures.same_contents c.deref.ensures.value c.in-Err.ensures.why

pub returns-in-Err-Failed-write_whole-clause-files : goal.returns-in-Err-Failed-write_whole-clause-files
returns-in-Err-Failed-write_whole-clause-files g c =
    broken_hex _ _ _ (names_of c.args.files) _ _ _ _ _ c.in-Ok.ensures.bytes c.in-Ok.ensures.same_contents c.deref.ensures.value c.in-Ok-made.ensures.made
    c.deref-2.ensures.value c.in-Err-Failed-write_whole.ensures.partly

pub returns-in-Err-NoMemory-write_whole-clause-files : goal.returns-in-Err-NoMemory-write_whole-clause-files
returns-in-Err-NoMemory-write_whole-clause-files g c =
    broken_hex _ _ _ (names_of c.args.files) _ _ _ _ _ c.in-Ok.ensures.bytes c.in-Ok.ensures.same_contents c.deref.ensures.value c.in-Ok-made.ensures.made
    c.deref-2.ensures.value c.in-Err-NoMemory-write_whole.ensures.partly

pub returns-in-Ok-write_whole-2-clause-files : goal.returns-in-Ok-write_whole-2-clause-files
returns-in-Ok-write_whole-2-clause-files g c =
    built_files _ _ _ _ (names_of c.args.files) _ _ _ _ _ _ c.in-Ok.ensures.bytes c.in-Ok.ensures.same_contents c.deref.ensures.value c.in-Ok-made.ensures.made
    c.deref-2.ensures.value c.in-Ok-write_whole.ensures.written c.deref-3.ensures.value c.in-Ok-write_whole-2.ensures.written

pub returns-in-Err-Failed-write_whole-2-clause-files : goal.returns-in-Err-Failed-write_whole-2-clause-files
returns-in-Err-Failed-write_whole-2-clause-files g c =
    broken_map _ _ _ _ (names_of c.args.files) _ _ _ _ _ _ c.in-Ok.ensures.bytes c.in-Ok.ensures.same_contents c.deref.ensures.value c.in-Ok-made.ensures.made
    c.deref-2.ensures.value c.in-Ok-write_whole.ensures.written c.deref-3.ensures.value c.in-Err-Failed-write_whole-2.ensures.partly

pub returns-clause-files : goal.returns-clause-files
returns-clause-files g c =
    broken_map _ _ _ _ (names_of c.args.files) _ _ _ _ _ _ c.in-Ok.ensures.bytes c.in-Ok.ensures.same_contents c.deref.ensures.value c.in-Ok-made.ensures.made
    c.deref-2.ensures.value c.in-Ok-write_whole.ensures.written c.deref-3.ensures.value c.in-Err-NoMemory-write_whole-2.ensures.partly
