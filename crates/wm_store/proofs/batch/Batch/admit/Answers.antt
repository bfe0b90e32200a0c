use Rattle.std.proofs.Common.{◌≡◌, ◌≤◌, ◌<◌, ⊎_elim, inl, inr, refl, sym, ◌∙◌, ap, subst, arith, ℕ, true, false, List, [], ◌∷◌, ◌++◌, length}
use Rattle.std.specs.Prelude.{Some}
use Rattle.wm_disk.specs.declared.refusal.Refusal.{Refusal}
use Rattle.wm_disk.specs.declared.refusal.Refusal.TheVariants.{NoMemory, Exhausted, BadArguments}
use Rattle.wm_journal.specs.Records.{taken}
use Rattle.wm_registry.specs.Commands.{command_spelling}
use Rattle.wm_registry.specs.declared.command.Command.{Command}
use Rattle.wm_registry.specs.Registry.{is_change, reply_to}
use Rattle.wm_registry.specs.Roots.{State}
use Rattle.wm_store.specs.Batches.{is_begin}
use Rattle.wm_store.specs.UnderWay.{IsPast, IsReady}
use Rattle.wm_store.specs.declared.batch.Batch.{Batch}
use Rattle.wm_checkpoint.specs.Kept.{room_left}
use Rattle.wm_store.proofs.Replies.{not_begin}
use Rattle.wm_store.proofs.Replying.{taken_append}
use Rattle.wm_store.proofs.Batching.{calls_none, whole_none}
use Rattle.wm_store.proofs.batch.Batch.admit.Goals as goal
use Rattle.wm_registry.specs.declared.version.Version.{Version}

fits_alone : (version : Version) (group : List Command) (c : Command) → group ≡ [] → length (command_spelling version c) ≤ 32768 → (room : ℕ) → room ≡ 262143 → taken (command_spelling version) (group ++ (c ∷ [])) ≤ room
fits_alone version group c none small room is = omega (arith, taken_append version group (c ∷ []), ap (λ (l : List Command). taken (command_spelling version) l) none, small, is)

-- the size of a command in a file of the version
sized : (w version : Version) (c : Command) (n : ℕ) → w ≡ version → n ≡ length (command_spelling w c) → n ≡ length (command_spelling version c)
sized w version c n same is = is ∙ ap (λ (u : Version). length (command_spelling u c)) same

same_inside : (x r : Refusal) → Some x ≡ Some r → r ≡ x
same_inside x r e = cc

pub returns-in-Begin : goal.returns-in-Begin
returns-in-Begin g c =
    let D = g.D.Disk in
    let old = c.args.keeper.now in
    record {
      goes_on = record {
        ready = c.requires.ready;
        same = (refl, refl);
        room = record { replies = omega arith; group = omega arith };
        past = λ start done p. p;
      };
      asked = λ e. absurd cc;
      refused = λ r e. inl (ap is_begin c.in-Begin.is, same_inside BadArguments r e, refl, refl);
      cut = tt;
      keeper = record {
        calls = calls_none D g.V.Layout.sizes g.V.Filed.version 1 old old refl;
        whole = whole_none D g.V.Layout.sizes g.V.Filed.version old old refl c.requires.ready.kept c.requires.ready.whole;
        down = tt;
      };
    }

pub returns-in-Some : goal.returns-in-Some
returns-in-Some g c =
    let D = g.D.Disk in
    let old = c.args.keeper.now in
    let other = not_begin c.args.command.now c.in_default.not-Begin in
    let is = c.in-Some.is in
    record {
      goes_on = record {
        ready = c.requires.ready;
        same = (refl, refl);
        room = record { replies = omega arith; group = omega arith };
        past = λ start done p. p;
      };
      asked = λ e. absurd cc;
      refused = λ r e.
          let this = same_inside c.in-Some.refusal r e in
          ⊎_elim
          (λ h. let clash = sym is ∙ h in absurd cc)
          (λ w. ⊎_elim
          (λ h. inr (inl (other, this ∙ same_inside NoMemory c.in-Some.refusal (sym h ∙ is), h, inr h, λ _. refl)))
          (λ h. inr (inr (other, this ∙ same_inside Exhausted c.in-Some.refusal (sym h ∙ is), h, (λ _. refl), inr (h, refl, refl))))
          w)
          c.requires.refused;
      cut = tt;
      keeper = record {
        calls = calls_none D g.V.Layout.sizes g.V.Filed.version 1 old old refl;
        whole = whole_none D g.V.Layout.sizes g.V.Filed.version old old refl c.requires.ready.kept c.requires.ready.whole;
        down = tt;
      };
    }

pub returns-then-not-is_change : goal.returns-then-not-is_change
returns-then-not-is_change g c =
    let D = g.D.Disk in
    let old = c.args.keeper.now in
    let none = c.in_default-refused.is in
    let idle : is_change (reply_to c.args.self.now.next c.args.command.now) ≡ false = ap is_change (sym c.reply_to.ensures.reply) ∙ sym c.if-not-is_change.ensures in
    let asked : c.args.self.now ≡ record c.args.self.now { next = c.reply_to.new.self } = ap (λ (n : State). record c.args.self.now { next = n }) (sym c.reply_to.ensures.same) in
    record {
      goes_on = record {
        ready = subst (λ (b : Batch g.row.V.Denot). IsReady D g.V.Layout.sizes g.V.Filed.version old b) asked c.requires.ready;
        same = (c.reply_to.ensures.same, refl);
        room = record { replies = omega arith; group = omega arith };
        past = λ start done p. subst (λ (b : Batch g.row.V.Denot). IsPast D g.V.Layout.sizes g.V.Filed.version start done old b) asked p;
      };
      asked = λ e. record { open_yet = none; was_open = none; plain = not_begin c.args.command.now c.in_default.not-Begin; spared = inl (refl, refl); fits = λ h. let clash : true ≡ false = sym h ∙ idle in absurd cc };
      refused = λ r e. absurd cc;
      cut = tt;
      keeper = record {
        calls = calls_none D g.V.Layout.sizes g.V.Filed.version 1 old old refl;
        whole = whole_none D g.V.Layout.sizes g.V.Filed.version old old refl c.requires.ready.kept c.requires.ready.whole;
        down = tt;
      };
    }

pub returns-then-self-size_as : goal.returns-then-self-size_as
returns-then-self-size_as g c =
    let D = g.D.Disk in
    let old = c.args.keeper.now in
    let a = c.args.self.now in
    let command = c.args.command.now in
    let none = c.in_default-refused.is in
    record {
      goes_on = record {
        ready = c.requires.ready;
        same = (refl, refl);
        room = record { replies = omega arith; group = omega arith };
        past = λ start done p. p;
      };
      asked = λ e. record { open_yet = none; was_open = none; plain = not_begin command c.in_default.not-Begin; spared = inl (refl, refl); fits = λ h. omega (arith, taken_append g.V.Filed.version a.group.items (command ∷ []), c.requires.ready.size, sized c.kept_version.result g.V.Filed.version c.args.command.now c.size_as.result c.kept_version.ensures c.size_as.ensures.exact, c.room.ensures, c.if-self-size_as.true) };
      refused = λ r e. absurd cc;
      cut = tt;
      keeper = record {
        calls = calls_none D g.V.Layout.sizes g.V.Filed.version 1 old old refl;
        whole = whole_none D g.V.Layout.sizes g.V.Filed.version old old refl c.requires.ready.kept c.requires.ready.whole;
        down = tt;
      };
    }

pub returns-in-Ok : goal.returns-in-Ok
returns-in-Ok g c =
    let D = g.D.Disk in
    let old = c.args.keeper.now in
    let new = c.make_room.new.keeper in
    let a = c.args.self.now in
    let b = c.make_room.new.self in
    let command = c.args.command.now in
    let m = c.in-Ok.ensures in
    let none = c.in_default-refused.is in
    let other = not_begin command c.in_default.not-Begin in
    let accepted : is_change (reply_to a.next command) ≡ true = ap is_change (sym c.reply_to.ensures.reply) ∙ sym c.if-not-is_change.ensures in
    let asked : c.args.self.now ≡ record c.args.self.now { next = c.reply_to.new.self } = ap (λ (n : State). record c.args.self.now { next = n }) (sym c.reply_to.ensures.same) in
    let over : room_left old < taken (command_spelling g.V.Filed.version) (a.group.items ++ (command ∷ [])) = omega (arith, taken_append g.V.Filed.version a.group.items (command ∷ []), c.requires.ready.size, sized c.kept_version.result g.V.Filed.version c.args.command.now c.size_as.result c.kept_version.ensures c.size_as.ensures.exact, c.room.ensures, c.if-self-size_as.false) in
    record {
      goes_on = record {
        ready = m.goes_on.ready;
        same = (m.goes_on.same.0 ∙ c.reply_to.ensures.same, m.goes_on.same.1);
        room = record { replies = m.goes_on.room.replies; group = m.goes_on.room.group };
        past = λ start done p. m.goes_on.past start done (subst (λ (x : Batch g.row.V.Denot). IsPast D g.V.Layout.sizes g.V.Filed.version start done old x) asked p);
      };
      asked = λ e. record {
        open_yet = e;
        was_open = none;
        plain = other;
        spared = inr (accepted, over);
        fits = λ h. ⊎_elim
            (λ x. fits_alone g.V.Filed.version b.group.items command x.1 (omega (arith, sized c.kept_version.result g.V.Filed.version command c.size_as.result c.kept_version.ensures c.size_as.ensures.exact, c.size_as.ensures.short)) (room_left new) x.2)
            (λ w. ⊎_elim (λ x. let clash = sym x.0 ∙ e in absurd cc) (λ x. let clash = sym x.0 ∙ e in absurd cc) w)
            m.made;
      };
      refused = λ r e. ⊎_elim
          (λ x. let clash = sym x.0 ∙ e in absurd cc)
          (λ w. ⊎_elim
          (λ x. inr (inl (other, same_inside NoMemory r (sym x.0 ∙ e), x.0, inl none, x.1)))
          (λ x. inr (inr (other, same_inside Exhausted r (sym x.0 ∙ e), x.0, x.3, inl (none, accepted, (x.2, omega (arith, over, x.4.room, taken_append g.V.Filed.version a.group.items (command ∷ []))), x.1, x.4))))
          w)
          m.made;
      cut = tt;
      keeper = record {
        calls = m.keeper.calls;
        whole = m.keeper.whole;
        down = tt;
      };
    }

pub returns-in-Err : goal.returns-in-Err
returns-in-Err g c =
    let D = g.D.Disk in
    let m = c.in-Err.ensures in
    let none = c.in_default-refused.is in
    let accepted : is_change (reply_to c.args.self.now.next c.args.command.now) ≡ true = ap is_change (sym c.reply_to.ensures.reply) ∙ sym c.if-not-is_change.ensures in
    let asked : c.args.self.now ≡ record c.args.self.now { next = c.reply_to.new.self } = ap (λ (n : State). record c.args.self.now { next = n }) (sym c.reply_to.ensures.same) in
    record {
      goes_on = tt;
      asked = tt;
      refused = tt;
      cut = record { cut = λ start done p. m.cut start done (subst (λ (b : Batch g.row.V.Denot). IsPast D g.V.Layout.sizes g.V.Filed.version start done c.args.keeper.now b) asked p); open_yet = none; plain = not_begin c.args.command.now c.in_default.not-Begin; accepted = accepted };
      keeper = record {
        calls = m.keeper.calls;
        whole = tt;
        down = m.keeper.down;
      };
    }

pub overflow_add-self : goal.overflow_add-self
overflow_add-self g c = omega (arith, c.requires.ready.fits, c.requires.ready.kept.place.len_is, c.size_as.ensures.short, sized c.kept_version.result g.V.Filed.version c.args.command.now c.size_as.result c.kept_version.ensures c.size_as.ensures.exact)

pub overflow_add-self-2 : goal.overflow_add-self-2
overflow_add-self-2 g c = omega (arith, c.requires.ready.fits, c.requires.ready.kept.place.len_is, c.size_as.ensures.short, sized c.kept_version.result g.V.Filed.version c.args.command.now c.size_as.result c.kept_version.ensures c.size_as.ensures.exact)
