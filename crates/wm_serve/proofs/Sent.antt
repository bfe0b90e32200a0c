-- What follows from a result's clause, if it was good.
use Rattle.std.proofs.Common.{Result, Ok, Err, IfOk, OnOk}

pub on_ok : {A B E : Type 0} (r : Result (Unit {0}) E) → OnOk r A → (A → B) → OnOk r B
on_ok (Ok done) a f = f a
on_ok (Err e) a f = tt

pub if_ok : {T E : Type 0} {P Q : T → Type 0} (r : Result T E) → IfOk r P → ((x : T) → P x → Q x) → IfOk r Q
if_ok (Ok x) p f = f x p
if_ok (Err e) p f = tt
