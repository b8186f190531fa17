use Rattle.polygons.proofs.polygons.Polygons.get.Goals as goal

pub returns : goal.returns
returns g c = rw (← c.self.view_is) (record { some = c.get.ensures.some; value = c.get.ensures.value })
