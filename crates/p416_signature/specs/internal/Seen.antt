-- What an object that was found is.
use Rattle.p416_syntax.specs.Names.{Name}
use Rattle.p416_syntax.specs.Declarations.{instance_name}
use Rattle.v1_core.specs.Signatures.{Object}
use Rattle.p416_signature.specs.declared.objects.Found.{Found}

abbrev pub seen_object : Found → Object
seen_object o = record { plane = o.plane.now; instance = o.instance.now }

abbrev pub own_name : Object → Name
own_name o = instance_name o.instance

abbrev pub plane_of : Object → Name
plane_of o = o.plane
