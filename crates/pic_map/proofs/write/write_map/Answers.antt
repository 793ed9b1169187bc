use Rattle.std.proofs.Common.{sym, subst}
use Rattle.text_lines.specs.Text.{hex_pairs}
use Rattle.pic_map.specs.MapFile.{IsMapFile}
use Rattle.pic_map.specs.MapView.{content_of}
use Rattle.pic_map.proofs.Written.{whole, is_file}
use Rattle.pic_map.proofs.write.write_map.Goals as goal

pub returns-clause-text : goal.returns-clause-text
unfolding hex_pairs
returns-clause-text c =
    rw (
      c.in_ok-extend_from_slice-3.ensures.items,
      c.in_ok-push_frames.ensures,
      c.in_ok-push_objects.ensures,
      c.in_ok-push.ensures.items,
      c.in_ok-push_address-2.ensures,
      c.in_ok-extend_from_slice-2.ensures.items,
      c.in_ok-push_address.ensures,
      c.in_ok-extend_from_slice.ensures.items,
      c.new-text.ensures.items,
      c.deref.ensures.value,
      c.deref-2.ensures.value,
    )
    (whole (content_of c.args.map.now))

pub returns-clause-file : goal.returns-clause-file
returns-clause-file c = subst (λ t. IsMapFile t (content_of c.args.map.now)) (sym (returns-clause-text c)) (is_file (content_of c.args.map.now) c.requires)
