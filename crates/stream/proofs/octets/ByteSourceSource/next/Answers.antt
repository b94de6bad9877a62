use Rattle.std.proofs.Common.{◌+◌, ◌≤◌, length, drop, sym, ap, ◌∙◌, arith, length-drop, rules}
use Rattle.codepoint.specs.Utf8.{decoded}
use Rattle.stream.proofs.Handing.{bytes_at_end, bytes_at_ill_formed, bytes_at_point, decoded_fits}
use Rattle.stream.proofs.octets.ByteSourceSource.next.Goals as goal

-- the sequence lies within the bytes
ends-inside : (c : goal.In-Point) → c.args.self.now.at + c.in-Point.len ≤ length c.args.self.now.bytes.now
ends-inside c =
    let at = c.args.self.now.at in
    let xs = c.args.self.now.bytes.now in
    let fits = decoded_fits (drop at xs) c.in-Point.c c.in-Point.len (ap decoded (sym c.rest.ensures) ∙ sym c.in-Point.ensures) in
    omega (arith, length-drop at xs, c.args.self.now.inside)

pub overflow_add-self : goal.overflow_add-self
overflow_add-self c = let h = ends-inside c in search rules

pub invariant_of-self : goal.invariant_of-self
invariant_of-self c = record { inside = ends-inside c }

pub returns-in-Empty : goal.returns-in-Empty
returns-in-Empty c = bytes_at_end c.args.self.now.at (drop c.args.self.now.at c.args.self.now.bytes.now) (ap decoded (sym c.rest.ensures) ∙ sym c.in-Empty.ensures)

pub returns-in-Point : goal.returns-in-Point
returns-in-Point c = bytes_at_point c.args.self.now.at c.args.self.now.bytes.now c.in-Point.c c.in-Point.len c.args.self.now.inside (ap decoded (sym c.rest.ensures) ∙ sym c.in-Point.ensures)

pub returns-in-IllFormed : goal.returns-in-IllFormed
returns-in-IllFormed c = bytes_at_ill_formed c.args.self.now.at (drop c.args.self.now.at c.args.self.now.bytes.now) (ap decoded (sym c.rest.ensures) ∙ sym c.in-IllFormed.ensures)
