mod Fillings
