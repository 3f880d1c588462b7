use Rattle.std.proofs.Common.{◌≡◌, ◌∷◌, ◌++◌, ◌||◌, ℕ, [], map, nat_eq, sym}
use Rattle.amqp_types.specs.Keys.{key_image}
use Rattle.amqp_types.specs.Marks.{image_mark, is_marked}
use Rattle.amqp_types.proofs.LentKeys.{pushed}
use Rattle.amqp_types.proofs.MarkLaws.{marked_more}
use Rattle.amqp_types.proofs.many_keys.ManyKeys.insert.Goals as goal

pub invariant_of-self : goal.invariant_of-self
invariant_of-self c = rw c.in_err-insert.ensures.err c.self.invariant

pub invariant_of-self-2 : goal.invariant_of-self-2
invariant_of-self-2 c =
    let put : (mark : ℕ) → is_marked mark c.insert.new.self ≡ (nat_eq (image_mark (key_image c.args.key)) mark || is_marked mark c.self.inside.marks) =
    rw c.mark_of_key.ensures at c.in_ok-insert.ensures.ok in
    rw c.in_ok-push.ensures.items (marked_more c.self.inside.marks c.insert.new.self (map key_image c.self.inside.keys.items) (map key_image (c.self.inside.keys.items ++ c.args.key ∷ []))
    (key_image c.args.key) c.self.invariant put (pushed key_image c.self.inside.keys.items c.args.key))

pub returns-clause-with : goal.returns-clause-with
returns-clause-with c = λ _ other. rw (c.in_ok-push.ensures.items, sym c.self.view_is) (pushed key_image c.self.inside.keys.items c.args.key other)
