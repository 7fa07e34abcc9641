use Rattle.std.proofs.Common.{◌≡◌, ◌++◌, append_assoc, rules}
use Rattle.sbpl_fixed.specs.Printed.{lines_text}
use Rattle.sbpl_demo.specs.Primitives.{backward, far, forward, left, motion_lines, right, way_along}
use Rattle.sbpl_demo.proofs.Steps as steps
use Rattle.sbpl_demo.proofs.primitives.put_heading.Goals as goal

pub returns : goal.returns
returns c =
    let step = way_along c.args.from in
    let a : c.put_motion.new.out.items ≡ c.args.out.now.items ++ lines_text (motion_lines (forward c.args.from step)) =
    search rules in
    let b : c.put_motion-2.new.out.items
    ≡ c.put_motion.new.out.items ++ lines_text (motion_lines (backward c.args.from step)) = search rules in
    let d : c.put_motion-3.new.out.items
    ≡ c.put_motion-2.new.out.items ++ lines_text (motion_lines (left c.args.from)) = search rules in
    let e : c.put_motion-4.new.out.items
    ≡ c.put_motion-3.new.out.items ++ lines_text (motion_lines (right c.args.from)) = search rules in
    let f : c.put_motion-5.new.out.items
    ≡ c.put_motion-4.new.out.items ++ lines_text (motion_lines (far c.args.from step)) = search rules in
    record {
      ok = rw (f, e, d, b, a, steps.five_written c.args.from) (simp append_assoc);
    }
