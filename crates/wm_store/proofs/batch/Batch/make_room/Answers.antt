use Rattle.std.proofs.Common.{◌≡◌, ⊎_elim, inl, inr, refl, sym, ◌∙◌, ap, subst, arith, ℕ, true, false, List, [], ◌∷◌, length, vec_len, ◌==◌, eqb-true}
use Rattle.std.proofs.lemmas.Result.{on_ok_weaker, on_err_weaker}
use Rattle.wm_registry.specs.declared.command.Command.{Command}
use Rattle.wm_store.specs.UnderWay.{IsUnmoved, IsCut, IsCutBehind, WentDown, IsRoomMade, IsSpared, IsWhole}
use Rattle.wm_store.specs.declared.batch.Batch.{Batch}
use Rattle.wm_store.proofs.Batching.{calls_then, calls_more, whole_then, down_then, keeps_room, made_later}
use Rattle.wm_store.proofs.batch.Batch.make_room.Goals as goal

not_empty : (n : ℕ) → false ≡ (n == 0) → n ≡ 0 → ⊥
not_empty n h e = let clash : false ≡ true = h ∙ ap (λ (k : ℕ). k == 0) e in absurd cc

no_items : (xs : List Command) → length xs ≡ 0 → xs ≡ []
no_items [] h = refl
no_items (x ∷ xs) h = absurd (omega (arith, h))

pub switch-requires : goal.switch-requires
switch-requires g c =
    let a = c.args.self.now in
    let none : vec_len a.group ≡ 0 = eqb-true (vec_len a.group) 0 (sym c.if-is_empty.ensures) in
    record {
      ready = c.requires.ready;
      open_yet = c.requires.open_yet;
      none = no_items a.group.items (sym a.group.ok.0 ∙ none);
    }

pub returns-then-is_empty : goal.returns-then-is_empty
returns-then-is_empty g c = let s = c.switch.ensures in record { goes_on = s.goes_on; made = s.made; cut = s.cut; keeper = s.keeper }

pub returns-in_default : goal.returns-in_default
returns-in_default g c =
    let m = c.in_default.ensures in
    record { goes_on = tt; made = tt; cut = m.cut; keeper = record { calls = calls_more g.D.Disk g.V.Layout.sizes g.V.Filed.version 0 1 _ _ (omega arith) m.keeper.calls; whole = tt; down = m.keeper.down } }

some_group : {V : Type 0} (a : Batch V) → false ≡ (vec_len a.group == 0) → a.group.items ≡ [] → ⊥
some_group a h none = not_empty (vec_len a.group) h (a.group.ok.0 ∙ ap length none)

pub returns-in-Some : goal.returns-in-Some
returns-in-Some g c =
    let m = c.in-Ok.ensures in
    record {
      goes_on = m.goes_on;
      made = ⊎_elim
          (λ h. let clash = sym h.0 ∙ c.in-Some.is in absurd cc)
          (λ h. inr (inl (h, λ none. absurd (some_group c.args.self.now c.if-is_empty.ensures none))))
          m.made;
      cut = tt;
      keeper = record {
        calls = calls_more g.D.Disk g.V.Layout.sizes g.V.Filed.version 0 1 _ _ (omega arith) m.keeper.calls;
        whole = m.keeper.whole;
        down = tt;
      };
    }

pub switch-requires-in-None : goal.switch-requires-in-None
switch-requires-in-None g c =
    let m = c.in-Ok.ensures in
    record {
      ready = m.goes_on.ready;
      open_yet = c.in-None.is;
      none = ⊎_elim (λ h. h.1) (λ h. let clash = sym h ∙ c.in-None.is in absurd cc) m.made;
    }

pub returns-in-None : goal.returns-in-None
returns-in-None g c =
    let D = g.D.Disk in
    let old = c.args.keeper.now in
    let mid = c.commit_so_far.new.keeper in
    let new = c.switch-in-None.new.keeper in
    let a = c.args.self.now in
    let b = c.commit_so_far.new.self in
    let e = c.switch-in-None.new.self in
    let m = c.in-Ok.ensures in
    let s = c.switch-in-None.ensures in
    let r = c.switch-in-None.result in
    let some : a.group.items ≡ [] → ⊥ = some_group a c.if-is_empty.ensures in
    let made : (b.group.items ≡ []) × IsSpared D g.V.Layout.sizes g.V.Filed.version old a.group.items mid [] = ⊎_elim (λ h. (h.1, h.2)) (λ h. let clash = sym h ∙ c.in-None.is in absurd cc) m.made in
    record {
      goes_on = on_ok_weaker r
          (λ (x : IsUnmoved D g.V.Layout.sizes g.V.Filed.version mid b new e). record {
            ready = x.ready;
            same = (x.same.0 ∙ m.goes_on.same.0, x.same.1 ∙ m.goes_on.same.1);
            room = keeps_room a b e m.goes_on.room x.room;
            past = λ start done p. x.past start done (m.goes_on.past start done p);
          })
          s.goes_on;
      made = on_ok_weaker r (λ (x : IsRoomMade D g.V.Layout.sizes g.V.Filed.version mid b new e). made_later D g.V.Layout.sizes g.V.Filed.version old mid new a b e made.1 made.0 x some) s.made;
      cut = on_err_weaker r (λ (f : IsCutBehind D g.V.Layout.sizes g.V.Filed.version mid b new e.before). λ start done p.
          subst (λ v. IsCut D g.V.Layout.sizes g.V.Filed.version start done v.items new e.before) m.goes_on.same.1 (f start done (m.goes_on.past start done p))) s.cut;
      keeper = record {
        calls = calls_then D g.V.Layout.sizes g.V.Filed.version 0 1 old mid new m.keeper.calls s.keeper.calls;
        whole = on_ok_weaker r (λ (w : IsWhole D g.V.Layout.sizes g.V.Filed.version mid new). whole_then D g.V.Layout.sizes g.V.Filed.version old mid new m.keeper.whole w) s.keeper.whole;
        down = on_err_weaker r (λ (w : WentDown D g.V.Layout.sizes g.V.Filed.version mid new). down_then D g.V.Layout.sizes g.V.Filed.version old mid new m.keeper.whole w) s.keeper.down;
      };
    }
