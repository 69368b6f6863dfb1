use Rattle.xm_colours.proofs.Refusing.{found_left, found_lesser, found_none, found_right}
use Rattle.xm_colours.proofs.allow.first_of_both.Goals as goal

pub returns-in-None-None : goal.returns-in-None-None
returns-in-None-None c colours xs ys h g = found_none colours xs ys c.args.found c.args.other c.in-None-None.is-0 c.in-None-None.is-1 h g

pub returns-in-None-Some : goal.returns-in-None-Some
returns-in-None-Some c colours xs ys h g = found_right colours xs ys c.args.found c.args.other c.in-None-Some.it c.in-None-Some.is-0 c.in-None-Some.is-1 h g

pub returns-in-Some-None : goal.returns-in-Some-None
returns-in-Some-None c colours xs ys h g = found_left colours xs ys c.args.found c.args.other c.in-Some-None.it c.in-Some-None.is-0 c.in-Some-None.is-1 h g

pub returns-in-Some-Some : goal.returns-in-Some-Some
returns-in-Some-Some c colours xs ys h g =
    found_lesser colours xs ys c.args.found c.args.other c.in-Some-Some.it c.in-Some-Some.other c.lesser.result c.in-Some-Some.is-0 c.in-Some-Some.is-1
    c.lesser.ensures.either c.lesser.ensures.it c.lesser.ensures.other h g
